-- The rows of a word's suffixes, with one label more in front: for callers.
use mathlib.Core.Path.{◌≡◌, ◌∙◌}
use mathlib.Core.List.{List, ◌∷◌}
use Prim.Native.Nat.{ℕ, zero, suc, ◌+◌, ◌*◌, ◌≤◌, ◌<◌}
use native.Mathlib.Omega.{arith}
use lib.ListN.{length, get_or, drop}
use Rattle.model.specs.Limits.{most_vertices, most_label}
use Rattle.model.specs.Lists.{◌∈◌}
use Rattle.model.proofs.Lists.{get_d_in}
use Rattle.rows.specs.Region.{saved_rows, child_rows}
use Rattle.rows.specs.Rows.{On, KeepsRows, InRows}
use Rattle.rows.proofs.Rows.{keeps_long, keeps_cell}
use Rattle.parent_rows.specs.Steps.{Trail, source_row, Sources}

-- one label more has a row of its own, and the rows of the other suffixes are kept
pub sources_more : {edges l w w' : List ℕ} {c : ℕ} → Sources edges l w → ((x : ℕ) → x ∈ l → (1 ≤ x) × (x ≤ most_label))
    → KeepsRows w w' (InRows saved_rows (child_rows + most_label * length l))
    → ((a t : ℕ) → a < most_vertices → Trail edges a (suc c ∷ l) t → On w' (child_rows + most_label * length l + c) a) → Sources edges (suc c ∷ l) w'
sources_more {edges} {l} {w} {w'} {c} s labels kept first = record { long = keeps_long kept s.long; all = all }
  where
    all : (i a t : ℕ) → i < length (suc c ∷ l) → a < most_vertices → Trail edges a (drop i (suc c ∷ l)) t → On w' (source_row (suc c ∷ l) i) a
    all zero a t h k p = let e : source_row (suc c ∷ l) 0 ≡ child_rows + most_label * length l + c = omega arith in rw e (first a t k p)
    all (suc i) a t h k p =
        let n : i < length l = omega arith in
        let e : source_row (suc c ∷ l) (suc i) ≡ source_row l i = omega arith in
        let m = labels (get_or l i 0) (get_d_in l i n) in
        rw e (keeps_cell kept (source_row l i) (record { least = omega arith; most = omega (arith, m) }) a k ∙ s.all i a t n k p)
