-- Laws of trails: edge by edge, end to end, and as the walks of a graph.
use mathlib.Core.Path.{◌≡◌, refl}
use mathlib.Core.Bool.{true}
use mathlib.Core.List.{List, [], ◌∷◌, ◌++◌}
use Prim.Native.Nat.{ℕ, ◌≤◌, ◌<◌}
use native.Mathlib.Omega.{arith}
use Rattle.model.specs.Limits.{most_vertices}
use Rattle.model.specs.Lists.{◌∈◌}
use Rattle.model.specs.Edges.{edge_number}
use Rattle.model.specs.Walks.{Spells}
use Rattle.model.specs.Computed.Edges.{edge?, bare}
use Rattle.model.proofs.Edges.{edge_to}
use Rattle.parent_rows.specs.Steps.{Trail}

module _ {edges : List ℕ} where
  -- no label leads nowhere; one label more is one edge more in front
  pub trail_none : {a t : ℕ} → Trail edges a [] t → a ≡ t
  trail_none Trail.here = refl

  pub trail_edge : {a c t : ℕ} {l : List ℕ} → Trail edges a (c ∷ l) t → (b : ℕ) × (b < most_vertices) × (edge_number a c b ∈ edges) × Trail edges b l t
  trail_edge (Trail.edge {b = b} h e p) = (b, h, e, p)

  pub edge_trail : {a c b t : ℕ} {l : List ℕ} → b < most_vertices → edge_number a c b ∈ edges → Trail edges b l t → Trail edges a (c ∷ l) t
  edge_trail = Trail.edge

  pub trail_cut : {a t : ℕ} (l : List ℕ) {l' : List ℕ} → Trail edges a (l ++ l') t → (m : ℕ) × Trail edges a l m × Trail edges m l' t
  trail_cut {a} [] p = (a, Trail.here, p)
  trail_cut (c ∷ l) (Trail.edge h e p) = let (m, q, r) = trail_cut l p in (m, Trail.edge h e q, r)

  pub trail_to : {a t : ℕ} {l : List ℕ} → Trail edges a l t → a < most_vertices → t < most_vertices
  trail_to Trail.here k = k
  trail_to (Trail.edge h e p) k = trail_to p h

-- edges of a graph
module _ {edges : List ℕ} {vertices : ℕ} where
  pub trail_spells : ((x : ℕ) → x ∈ edges → edge? vertices x ≡ true) → {a t : ℕ} {l : List ℕ} → Trail edges a l t → a < vertices
      → Spells (bare vertices edges) a l t
  trail_spells f Trail.here k = Spells.here
  trail_spells f (Trail.edge {a = a} {c = c} {b = b} h e p) k =
      let to = edge_to vertices a c b h (f _ e) in
      Spells.edge (record { from = k; to = to; stands = e }) (trail_spells f p to)

  pub spells_trail : vertices ≤ most_vertices → {a t : ℕ} {l : List ℕ} → Spells (bare vertices edges) a l t → Trail edges a l t
  spells_trail n Spells.here = Trail.here
  spells_trail n (Spells.edge {b = b} e p) = Trail.edge {b = b} (omega (arith, e.to)) e.stands (spells_trail n p)
