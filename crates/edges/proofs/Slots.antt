-- Laws of first slots: what is below a key stays below a higher one, and the table as it is filled.
use mathlib.Core.Path.{◌∙◌}
use mathlib.Core.List.{List}
use Prim.Native.Nat.{ℕ, ◌*◌, ◌≤◌, ◌<◌}
use native.Mathlib.Omega.{arith}
use native.Mathlib.Decide.{ℕ_discrete}
use lib.ListN.{length, get_or, set, replicate, length-set, length-replicate, get_or-replicate}
use lib.Seq.{get_or-set_same, get_or-set_other}
use Rattle.model.specs.Limits.{most_vertices, from_unit}
use Rattle.model.specs.Lists.{Rising}
use Rattle.model.proofs.Lists.{rising_le}
use Rattle.edges.specs.Slots.{Under, Skipped, Starts}

module _ {edges : List ℕ} {key n : ℕ} where
  -- a higher key leaves as much under it
  pub under_up : {key' : ℕ} → key ≤ key' → Under edges key n → Under edges key' n
  under_up h u = record { most = u.most; below = λ j k. omega (arith, u.below j k) }

pub under_none : (edges : List ℕ) (key : ℕ) → Under edges key 0
under_none edges key = record { most = omega arith; below = λ j h. absurd (omega arith) }

-- from the first such slot on, rising edges are at least key
pub skipped_least : {edges : List ℕ} {key n : ℕ} → Rising edges → Skipped edges key n → (i : ℕ) → n ≤ i → i < length edges → key ≤ get_or edges i 0
skipped_least s k i h b = omega (arith, k.reached (omega arith), rising_le s _ i h b)

-- the table once the slots of the vertices below v are written
pub starts_none : (edges : List ℕ) → Starts edges (replicate most_vertices 0)
starts_none edges = record {
  long = length-replicate {A = ℕ} most_vertices 0;
  under = λ v h. rw (get_or-replicate {A = ℕ} most_vertices v 0 0 h) (under_none edges (v * from_unit));
}

pub starts_set : {edges slots : List ℕ} (v i : ℕ) → v < most_vertices → Starts edges slots → Under edges (v * from_unit) i → Starts edges (set slots v i)
starts_set {edges} {slots} v i h st u = record {
  long = length-set slots v i ∙ st.long;
  under = λ x k. elim (ℕ_discrete x v) [
    | yes e ↦ rw (e, get_or-set_same slots v i 0 (omega (arith, st.long))) u
    | no d ↦ rw (get_or-set_other slots v x i 0 d) (st.under x k)
  ];
}
