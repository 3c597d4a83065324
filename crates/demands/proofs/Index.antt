-- Index memory that holds the entries a graph determines: it passes check 12 and answers rightly, and no entry can be struck out of it.
use mathlib.Core.Path.{◌≡◌, refl, sym, ◌∙◌}
use mathlib.Core.Bool.{Bool, true, false}
use mathlib.Core.List.{List}
use Prim.Native.Nat.{ℕ, zero, suc, ◌-◌, ◌≤◌}
use native.Mathlib.Omega.{arith}
use lib.Dec.{T}
use lib.ListN.{length}
use Rattle.model.specs.Lists.{◌∈◌, keep, Rising, filled}
use Rattle.model.specs.Edges.{Graph, standing}
use Rattle.model.specs.Patterns.{Keyed, code}
use Rattle.model.specs.Walks.{Runs}
use Rattle.model.specs.Order.{Names}
use Rattle.model.specs.Entries.{Asked, IsEntry}
use Rattle.model.specs.Query.{OfEntry}
use Rattle.model.specs.Computed.Edges.{Small}
use Rattle.model.specs.Computed.Patterns.{keyed?}
use Rattle.model.specs.Computed.Entries.{entries}
use Rattle.model.specs.Computed.Query.{digits, code?, entry?, rising_entries?, index_memory?, answers?}
use Rattle.model.proofs.Tests.{Tests, test_map, test_true, test_false, test_yields}
use Rattle.model.proofs.Lists.{keep_out, sorted_keep}
use Rattle.model.proofs.Entries.{entries_out, entries_rise}
use Rattle.model.proofs.Query.{test_answers, right, struck_out}
use Rattle.model.proofs.Memory.{standing_filled}
use Rattle.model.proofs.Zeros.{rising_zeros, Ordered}
use Rattle.model.proofs.IndexMemory.{test_entry, index_memory, answers_alone}
use Rattle.model.proofs.Memories.{test_of_entry}

-- index memory that check 12 lets pass, and a question that is rightly a yes: the whole memory answers yes, the struck one no
pub record Turned (g : Graph) (whole struck : List ℕ) : Type 0 where
  pub passes : index_memory? g.vertices g.longest struck ≡ true
  pub pattern : List ℕ
  pub start : ℕ
  pub destination : ℕ
  pub asked : Asked g pattern start destination
  pub runs : Runs g pattern start destination
  pub yes_before : answers? g.vertices whole pattern start destination ≡ true
  pub no_after : answers? g.vertices struck pattern start destination ≡ false

-- ---- each determined entry passes check 12

of_entry : {g : Graph} {order : List ℕ} {x : ℕ} → IsEntry g order x → OfEntry g.vertices g.longest x
of_entry (IsEntry.out s t l q a e) =
    record { side = 0; owner = s; hub = t; number = code l; sides = omega arith; ends = (q.from, q.to); coded = record { pattern = l; is = q.pattern; coded = refl }; is = e }
of_entry (IsEntry.into s t l q a d e) =
    record { side = 1; owner = t; hub = s; number = code l; sides = omega arith; ends = (q.to, q.from); coded = record { pattern = l; is = q.pattern; coded = refl }; is = e }

pub entry_valid : (g : Graph) (order : List ℕ) → Small g → (x : ℕ) → x ∈ entries g order → entry? g.vertices g.longest x ≡ true
entry_valid g order small x m =
    test_true (test_of_entry g.vertices small.vertices_small g.longest small.longest_small x) (of_entry (entries_out g order small m))

-- ---- rising entries and then zeros pass check 12

-- 0 is the number of no entry: its code has no digits
not_coded : (k : ℕ) → T (code? k 0) → ⊥
unfolding code? digits keyed?
not_coded k t = t

entry_some : (n k x : ℕ) → entry? n k x ≡ true → 1 ≤ x
entry_some n k zero e = absurd (not_coded k (test_yields (test_entry n k 0) e).coded)
entry_some n k (suc x) e = omega arith

module _ (vertices longest : ℕ) where
  -- for any such entries, so also for what is left if some are struck out and the others closed up
  pub memory_passes : (slots : ℕ) (l : List ℕ) → Rising l → ((x : ℕ) → x ∈ l → entry? vertices longest x ≡ true)
      → index_memory? vertices longest (filled slots l) ≡ true
  unfolding index_memory? rising_entries?
  memory_passes slots l s f = rising_zeros (entry? vertices longest) (slots - length l) 0 s (λ x m. (entry_some vertices longest x (f x m), f x m))

  -- such memory answers as its entries do
  memory_answers : (slots : ℕ) (l : List ℕ) → Rising l → ((x : ℕ) → x ∈ l → entry? vertices longest x ≡ true)
      → {k : ℕ} {pattern : List ℕ} → Keyed k pattern → (s t : ℕ)
      → answers? vertices (filled slots l) pattern s t ≡ answers? vertices l pattern s t
  memory_answers slots l rise f p s t =
      let e : standing (filled slots l) ≡ l = standing_filled slots l (λ x m. entry_some vertices longest x (f x m)) in
      let o : Ordered (entry? vertices longest) 0 (filled slots l) (standing (filled slots l)) =
      index_memory vertices longest (filled slots l) (memory_passes slots l rise f) in
      sym (answers_alone (rw e at o) vertices p s t)

-- ---- what the memory of a graph answers, whole and with entries struck out

module _ (g : Graph) (order : List ℕ) (small : Small g) (slots : ℕ) where
  pub whole_passes : index_memory? g.vertices g.longest (filled slots (entries g order)) ≡ true
  whole_passes = memory_passes g.vertices g.longest slots (entries g order) (entries_rise g order small) (entry_valid g order small)

  -- its entries stand in it, and nothing else
  pub whole_stands : standing (filled slots (entries g order)) ≡ entries g order
  whole_stands = standing_filled slots (entries g order) (λ x m. entry_some g.vertices g.longest x (entry_valid g order small x m))

  -- a question by a pattern of the index is answered yes if a walk runs it, and only then
  pub answer_right : {l : List ℕ} {s t : ℕ} → Asked g l s t → Tests (answers? g.vertices (filled slots (entries g order)) l s t) (Runs g l s t)
  answer_right {l} {s} {t} q =
      let same = memory_answers g.vertices g.longest slots (entries g order) (entries_rise g order small) (entry_valid g order small)
      q.pattern.keyed s t in
      rw same (test_map (right g order small q).0 (right g order small q).1 (test_answers g.vertices (entries g order) l s t))

  -- entries struck out, the others closed up and zeros behind (f says which are kept, e is one that is not): some right yes becomes a no
  pub struck_answer : Names g.vertices order → (f : ℕ → Bool) (e : ℕ) → e ∈ entries g order → ¬ T (f e)
      → Turned g (filled slots (entries g order)) (filled slots (keep f (entries g order)))
  struck_answer names f e m gone =
      let lost = struck_out g order small names f e m gone in
      let p = lost.asked.pattern in
      let rise : Rising (keep f (entries g order)) = sorted_keep f (entries_rise g order small) in
      let valid : (x : ℕ) → x ∈ keep f (entries g order) → entry? g.vertices g.longest x ≡ true
      = λ x k. entry_valid g order small x (keep_out f (entries g order) k).0 in
      let same = memory_answers g.vertices g.longest slots (keep f (entries g order)) rise valid p.keyed lost.start lost.destination in
      let tests = test_answers g.vertices (keep f (entries g order)) lost.pattern lost.start lost.destination in
      record {
        passes = memory_passes g.vertices g.longest slots (keep f (entries g order)) rise valid;
        pattern = lost.pattern;
        start = lost.start;
        destination = lost.destination;
        asked = lost.asked;
        runs = lost.runs;
        yes_before = test_true (answer_right lost.asked) lost.runs;
        no_after = same ∙ test_false tests lost.answered_no;
      }
