-- Marking: what stands in the table and what the rest of the list will mark make up what the whole list marks.
use mathlib.Core.Path.{◌≡◌, refl, sym, ap, ◌∙◌}
use mathlib.Core.Bool.{Bool, true, false, ◌&&◌, ◌||◌, or-true, or-false, or_assoc}
use mathlib.Core.List.{List}
use Prim.Native.Nat.{ℕ, ◌+◌, ◌≤◌, ◌<◌}
use native.Mathlib.Decide.{ℕ_discrete}
use native.Mathlib.Numerals.{add-one}
use native.Mathlib.Omega.{arith}
use lib.Dec.{eqb}
use lib.ListN.{length, get_or, set, drop, length-set, drop_of_length-le}
use lib.Seq.{drop-cons, get_or-set_same, get_or-set_other}
use borrow.Author.Tests.{eq-eqb, ne_eqb}
use Rattle.model.specs.Lists.{any?}
use Rattle.answer_tables.specs.Marking.{found?, Marked}

-- mark v once slot i is marked
pub mark_at : (marks : List Bool) (i v : ℕ) → i < length marks → get_or (set marks i true) v false ≡ (get_or marks v false || eqb i v)
mark_at marks i v h = elim (ℕ_discrete v i) [
  | yes e ↦ rw (e, eq-eqb i i refl) (get_or-set_same marks i true false h ∙ sym (or-true (get_or marks i false)))
  | no n ↦ rw (ne_eqb i v (λ e. n (sym e))) (get_or-set_other marks i v true false n ∙ sym (or-false (get_or marks v false)))
]

-- the loop stands at slot i
pub record Marking (test : ℕ → Bool) (field : ℕ → ℕ) (list : List ℕ) (before marks : List Bool) (i : ℕ) : Type 0 where
  pub rest : (v : ℕ) → (get_or marks v false || found? test field (drop i list) v) ≡ (get_or before v false || found? test field list v)

module _ {test : ℕ → Bool} {field : ℕ → ℕ} {list : List ℕ} {before marks : List Bool} {i : ℕ} (g : Marking test field list before marks i) where
  found_next : i < length list → (v : ℕ) {b : Bool} → test (get_or list i 0) ≡ b
      → found? test field (drop i list) v ≡ ((b && eqb (field (get_or list i 0)) v) || found? test field (drop (i + 1) list) v)
  unfolding found? any?
  found_next h v e = rw (drop-cons list i 0 h, add-one, e) refl

  -- the entry fails the test
  pub marking_pass : i < length list → test (get_or list i 0) ≡ false → Marking test field list before marks (i + 1)
  marking_pass h e = record { rest = λ v. ap (λ (b : Bool). get_or marks v false || b) (sym (found_next h v e)) ∙ g.rest v }

  -- the entry passes it, and is marked
  pub marking_mark : {after : List Bool} → i < length list → test (get_or list i 0) ≡ true → after ≡ set marks (field (get_or list i 0)) true
      → field (get_or list i 0) < length after → Marking test field list before after (i + 1)
  marking_mark {after} h e set_to k = record {
    rest = λ v.
        let x = get_or list i 0 in
        let room : field x < length marks = omega (arith, ap length set_to, length-set marks (field x) true) in
        ap (λ (b : Bool). b || found? test field (drop (i + 1) list) v) (rw set_to (mark_at marks (field x) v room))
        ∙ or_assoc (get_or marks v false) (eqb (field x) v) (found? test field (drop (i + 1) list) v)
        ∙ ap (λ (b : Bool). get_or marks v false || b) (sym (found_next h v e)) ∙ g.rest v;
  }

  pub marking_all : length list ≤ i → Marked test field list before marks
  unfolding found? any?
  marking_all h = record { each = λ v. sym (or-false (get_or marks v false)) ∙ rw (drop_of_length-le list h) at g.rest v }
