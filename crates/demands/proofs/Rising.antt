-- The standing edges as a rising list.
use mathlib.Core.Path.{◌≡◌}
use mathlib.Core.Bool.{true}
use mathlib.Core.List.{List}
use Prim.Native.Nat.{ℕ, ◌*◌, ◌≤◌, ◌<◌}
use native.Mathlib.Omega.{arith}
use Rattle.model.specs.Limits.{most_vertices, from_unit}
use Rattle.model.specs.Lists.{◌∈◌, mem?, up_to, Rising}
use Rattle.model.specs.Computed.Edges.{edge?}
use Rattle.model.proofs.Tests.{test_mem, test_yields}
use Rattle.model.proofs.Lists.{keep_in, keep_out, up_to_lem, below, rising_from, sorted_keep}
use Rattle.model.proofs.Edges.{test_edge}
use Rattle.model.proofs.Counting.{rising_same}
use Rattle.demands.specs.Ledger.{rising}

-- edges of a layout with so many vertices
abbrev pub EdgesOf : ℕ → List ℕ → Type 0
EdgesOf vertices edges = (x : ℕ) → x ∈ edges → edge? vertices x ≡ true

-- an edge's number is below 256 × 4,096
pub edge_below : {vertices x : ℕ} → vertices ≤ most_vertices → edge? vertices x ≡ true → x < most_vertices * from_unit
edge_below {vertices} {x} h e = omega (arith, h, (test_yields (test_edge vertices x) e).from)

module _ (edges : List ℕ) where
  pub rising_rises : Rising (rising edges)
  unfolding rising
  rising_rises = sorted_keep (λ x. mem? x edges) (rising_from 0 (most_vertices * from_unit))

  pub rising_out : {x : ℕ} → x ∈ rising edges → x ∈ edges
  unfolding rising
  rising_out {x} m = (test_mem x edges).yields (keep_out (λ x. mem? x edges) (up_to (most_vertices * from_unit)) m).1

  pub rising_below : {x : ℕ} → x ∈ rising edges → x < most_vertices * from_unit
  unfolding rising
  rising_below m = below (keep_out (λ x. mem? x edges) (up_to (most_vertices * from_unit)) m).0

  pub rising_in : {x : ℕ} → x < most_vertices * from_unit → x ∈ edges → x ∈ rising edges
  unfolding rising
  rising_in {x} h m = keep_in (λ x. mem? x edges) (up_to_lem h) ((test_mem x edges).passes m)

-- a rising list with the same edges is theirs
pub rising_is : {vertices : ℕ} {l : List ℕ} (edges : List ℕ) → vertices ≤ most_vertices → EdgesOf vertices l → Rising l → ((x : ℕ) → x ∈ l → x ∈ edges) → ((x : ℕ) → x ∈ edges → x ∈ l)
    → rising edges ≡ l
rising_is edges h valid rises f g =
    rising_same (rising_rises edges) rises (λ x m. g x (rising_out edges m)) (λ x m. rising_in edges (edge_below h (valid x m)) (f x m))
