-- Laws of edge numbers.
use mathlib.Core.Path.{◌≡◌, subst, sym}
use mathlib.Core.Bool.{true}
use Prim.Native.Nat.{ℕ, ◌/◌, ◌≤◌, ◌<◌}
use native.Mathlib.Omega.{arith}
use lib.Dec.{T}
use Rattle.model.specs.Limits.{most_label, from_unit, label_unit}
use Rattle.model.specs.Edges.{edge_number, from_of, label_of, to_of}
use Rattle.model.specs.Computed.Edges.{edge?}
use Rattle.model.proofs.Tests.{Tests, test_map, test_and, test_le, test_lt, test_true}

-- the fields of an edge number
pub edge_fields : (a c b : ℕ) → c < from_unit / label_unit → b < label_unit → (from_of (edge_number a c b) ≡ a) × (label_of (edge_number a c b) ≡ c) × (to_of (edge_number a c b) ≡ b)
edge_fields a c b hc hb = omega arith

-- x is the number of an edge
pub record IsEdge (vertices x : ℕ) : Type 0 where
  pub from : from_of x < vertices
  pub label_low : 1 ≤ label_of x
  pub label_high : label_of x ≤ most_label
  pub to : to_of x < vertices

pub test_edge : (vertices x : ℕ) → Tests (edge? vertices x) (IsEdge vertices x)
unfolding edge?
test_edge vertices x = test_map
    (λ h. record { from = h.0; label_low = h.1.0.0; label_high = h.1.0.1; to = h.1.1 })
    (λ h. (h.from, ((h.label_low, h.label_high), h.to)))
    (test_and (test_lt (from_of x) vertices) (test_and (test_and (test_le 1 (label_of x)) (test_le (label_of x) most_label)) (test_lt (to_of x) vertices)))

-- an edge as named, whose checks have passed
pub edge_named : (vertices a c b : ℕ) → vertices ≤ label_unit → a < vertices → b < vertices → 1 ≤ c → c ≤ most_label → edge? vertices (edge_number a c b) ≡ true
edge_named vertices a c b small ha hb low high =
    let (i, j, l) = edge_fields a c b (omega arith) (omega arith) in
    test_true (test_edge vertices (edge_number a c b)) (record { from = rw i ha; label_low = rw j low; label_high = rw j high; to = rw l hb })

-- an edge's end is a vertex
pub edge_to : (vertices a c b : ℕ) → b < label_unit → edge? vertices (edge_number a c b) ≡ true → b < vertices
edge_to vertices a c b h e =
    let same : to_of (edge_number a c b) ≡ b = omega arith in
    rw same at ((test_edge vertices (edge_number a c b)).yields (subst T (sym e) tt)).to
