-- From the public calls to their C forms.
use mathlib.Core.Path.{◌≡◌, refl, sym, ap, ◌∙◌}
use mathlib.Core.Bool.{true, false}
use mathlib.Core.List.{List, [], ◌∷◌, map}
use Prim.Native.Nat.{ℕ, zero, suc, ◌+◌, ◌≤◌}
use native.Mathlib.Omega.{arith}
use lib.ListN.{length, get_or, drop, drop_of_length-le}
use lib.Seq.{drop-cons}
use Rattle.model.specs.Lists.{from}
use Rattle.model.specs.Replies.{number_of}
use Rattle.model.specs.declared.Refusal.{Refusal}
use Rattle.model.proofs.Tests.{test_true, test_false, test_eq}
use Rattle.model.proofs.Replies.{number_some}
use Rattle.calls.specs.Call.{Header, Memory, Outcome, Meets, Returned}
use Rattle.calls.specs.Change.{open_change, open_call, insert_change, insert_call, remove_change, remove_call}
use Rattle.calls.proofs.Change.{handed_some}
use Rattle.store.specs.Store.{returned}
use Rattle.store.specs.declared.Changed.{Changed}
use Rattle.records.specs.Record.{record_numbers}
use Rattle.rlc_c.specs.Interface.{header_in, words_of, record?, other_record, words_after, HandsBack, ChangesInC}

-- a record of another length
pub other : (words : List ℕ) → (length words ≡ record_numbers → ⊥) → record? words ≡ false
other words d = test_false (test_eq (length words) record_numbers) d

pub ten : (words : List ℕ) → length words ≡ record_numbers → record? words ≡ true
ten words e = test_true (test_eq (length words) record_numbers) e

-- ---- any call

-- with a record of another length that number is told, and nothing is touched
pub untouched : {R : Type 0} {r : R} {m : Memory} → Meets (record { reply = r; memory = m }) r m
untouched = record { reply_is = refl; edges_after = refl; index_after = refl; work_after = refl; output_after = refl }

-- with a record of ten numbers: what the call of the store promises, its reply told as a number
pub called : {R : Type 0} (told : R → ℕ) {c : Outcome R} {reply : R} {m' : Memory} {r : ℕ} → Meets c reply m' → r ≡ told reply
    → Meets (record { reply = told c.reply; memory = c.memory }) r m'
called told l q =
    record {
      reply_is = q ∙ ap told l.reply_is;
      edges_after = l.edges_after;
      index_after = l.index_after;
      work_after = l.work_after;
      output_after = l.output_after;
    }

-- ---- the numbers of a record

pub size_is : {h h' : Header} → h ≡ h' → h.size ≡ h'.size
size_is e = ap (λ (h : Header). h.size) e

-- the last m of n + m numbers, read one by one
pub numbers_behind : (words : List ℕ) (n m : ℕ) → length words ≡ n + m → map (λ i. get_or words i 0) (from n m) ≡ drop n words
unfolding from
numbers_behind words n zero e = sym (drop_of_length-le words {i = n} (omega arith))
numbers_behind words n (suc m) e = ap (λ (l : List ℕ). get_or words n 0 ∷ l) (numbers_behind words (suc n) m (omega arith)) ∙ sym (drop-cons words n 0 (omega arith))

-- a record holds what it says
words_hold : (words : List ℕ) → length words ≡ record_numbers → get_or words 0 0 ∷ get_or words 1 0 ∷ drop 2 words ≡ words
words_hold [] e = absurd (omega arith)
words_hold (x ∷ []) e = absurd (omega arith)
words_hold (x ∷ y ∷ l) e = refl

-- ---- changing calls

-- a refusal hands back the record given
pub open_given : (h : Header) (m : Memory) → 1 ≤ (open_call h m).reply.answer → (open_call h m).reply.header ≡ h
unfolding open_call
open_given h m some = handed_some h h.size _ (open_change h.size m).reply some

module _ (h : Header) (from label to : ℕ) (m : Memory) where
  pub insert_given : 1 ≤ (insert_call h from label to m).reply.answer → (insert_call h from label to m).reply.header ≡ h
  unfolding insert_call
  insert_given some = handed_some h h.size _ (insert_change h.size from label to m).reply some

  pub remove_given : 1 ≤ (remove_call h from label to m).reply.answer → (remove_call h from label to m).reply.header ≡ h
  unfolding remove_call
  remove_given some = handed_some h h.size _ (remove_change h.size from label to m).reply some

module _ {words : List ℕ} {m : Memory} {c : Outcome Returned} where
  pub unchanged : (length words ≡ record_numbers → ⊥) → ChangesInC words m c other_record words m
  unchanged d = record { meets = rw (other words d) untouched; words_after_lem = rw (other words d) refl }

  module _ (e : length words ≡ record_numbers) {told : Returned} {m' : Memory} {r : ℕ} (l : Meets c told m') where
    -- a call that hands back the record given with a refusal
    pub changed : {made : Changed} {words' : List ℕ} → told ≡ returned made
        → (1 ≤ c.reply.answer → c.reply.header ≡ header_in words) → HandsBack made r words' → ChangesInC words m c r words' m'
    changed {made} {words'} is hands b =
        record {
          meets = rw (ten words e) (called (λ (x : Returned). x.answer) l (b.number ∙ sym (ap (λ (x : Returned). x.answer) is)));
          words_after_lem = rw (ten words e) (b.words_after_lem ∙ ap (λ (k : Returned). words_of k.header) (sym is ∙ l.reply_is) ∙ go c.reply.answer refl);
        }
      where
        go : (n : ℕ) → c.reply.answer ≡ n → words_of c.reply.header ≡ words_after words n c.reply.header
        go zero q = refl
        go (suc n) q = ap words_of (hands (omega (arith, q))) ∙ words_hold words e

    -- a card that is refused, and one that is accepted
    pub card_refused : (refusal : Refusal) → told.answer ≡ number_of refusal → r ≡ number_of refusal → ChangesInC words m c r words m'
    card_refused refusal number q =
        record {
          meets = rw (ten words e) (called (λ (x : Returned). x.answer) l (q ∙ sym number));
          words_after_lem = rw (ten words e) (go c.reply.answer (sym (ap (λ (k : Returned). k.answer) l.reply_is) ∙ number));
        }
      where
        go : (n : ℕ) → n ≡ number_of refusal → words ≡ words_after words n c.reply.header
        go zero e = absurd (omega (arith, e, number_some refusal))
        go (suc n) e = refl

    pub card_accepted : {made : Changed} {words' : List ℕ} → told ≡ returned made → told.answer ≡ 0 → HandsBack made r words' → ChangesInC words m c r words' m'
    card_accepted {made} {words'} is none b =
        let zero_is : c.reply.answer ≡ 0 = sym (ap (λ (k : Returned). k.answer) l.reply_is) ∙ none in
        record {
          meets = rw (ten words e) (called (λ (x : Returned). x.answer) l (b.number ∙ sym (ap (λ (x : Returned). x.answer) is)));
          words_after_lem = rw (ten words e, zero_is) (b.words_after_lem ∙ ap (λ (k : Returned). words_of k.header) (sym is ∙ l.reply_is));
        }
