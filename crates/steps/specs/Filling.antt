-- Rows filled, one for each vertex, and the edges of a list that lead from row to row.
use Rattle.std.specs.Prelude.{◌≡◌, List, ◌⊎◌, ℕ, ◌+◌, ◌-◌, ◌≤◌, ◌<◌, length, take}
use Rattle.model.specs.Limits.{most_vertices, least_work}
use Rattle.model.specs.Lists.{◌∈◌}
use Rattle.model.specs.Edges.{from_of, to_of}
use Rattle.rows.specs.Region.{work_rows, step_rows, parent_rows, saved_rows}
use Rattle.rows.specs.Rows.{On, Has, Row, KeepsRows, InRows, Empty}

-- the n rows from base on are emptied
pub record Clears (w w' : List ℕ) (base n : ℕ) : Type 0 where
  pub keeps : KeepsRows w w' (λ r. InRows base (base + n) r → ⊥)
  pub empty : Empty w' base n

-- row base + a is then the vertices of P a, for every vertex a
pub record FillsRows (base : ℕ) (P : ℕ → ℕ → Type 0) (w w' : List ℕ) : Type 0 where
  pub keeps : KeepsRows w w' (λ r. InRows base (base + most_vertices) r → ⊥)
  pub rows : (a : ℕ) → a < most_vertices → Row w' (base + a) (P a)

-- empty rows
pub record IdentityFillable (w : List ℕ) (base : ℕ) : Type 0 where
  pub long : least_work ≤ length w
  pub base_rows : base + most_vertices ≤ work_rows
  pub empty : Empty w base most_vertices

-- ---- the edges of a list

-- each starts at a vertex
pub record Outgoing (edges : List ℕ) : Type 0 where
  pub small : (x : ℕ) → x ∈ edges → from_of x < most_vertices

-- an edge of the list starts at a
pub record Starting (edges : List ℕ) (a : ℕ) : Type 0 where
  pub edge : ℕ
  pub listed : edge ∈ edges
  pub from : from_of edge ≡ a

-- an edge of the list leads from a to t
pub record LeadsTo (edges : List ℕ) (a t : ℕ) : Type 0 where
  pub edge : ℕ
  pub listed : edge ∈ edges
  pub from : from_of edge ≡ a
  pub to : to_of edge ≡ t

-- an edge of the list leads from a to a vertex whose row, of those from `base` on, has t
pub record LeadsInto (edges w : List ℕ) (base a t : ℕ) : Type 0 where
  pub edge : ℕ
  pub listed : edge ∈ edges
  pub from : from_of edge ≡ a
  pub on : On w (base + to_of edge) t

-- work memory has row `starts`, and there is room for all edges of the list
pub record Gatherable (edges w : List ℕ) (starts : ℕ) (live : List ℕ) : Type 0 where
  pub has : Has w starts
  pub room : length edges ≤ length live

-- the first n of `live` are the edges of the list that end in row `starts`
pub record Gathers (edges w : List ℕ) (starts : ℕ) (live : List ℕ) (n : ℕ) : Type 0 where
  pub fits : n ≤ length edges
  pub only : (x : ℕ) → x ∈ take n live → (x ∈ edges) × On w starts (to_of x)
  pub all : (x : ℕ) → x ∈ edges → On w starts (to_of x) → x ∈ take n live

-- the rows from `to` on are empty, and none of those from `from` on
pub record RowsFillable (edges w : List ℕ) (from to : ℕ) : Type 0 where
  pub outgoing : Outgoing edges
  pub long : least_work ≤ length w
  pub from_rows : from + most_vertices ≤ work_rows
  pub to_rows : to + most_vertices ≤ work_rows
  pub apart : (a b : ℕ) → a < most_vertices → b < most_vertices → from + b ≡ to + a → ⊥
  pub empty : Empty w to most_vertices

-- the rows from `to` on are empty
pub record EndsFillable (edges w : List ℕ) (to : ℕ) : Type 0 where
  pub outgoing : Outgoing edges
  pub long : least_work ≤ length w
  pub to_rows : to + most_vertices ≤ work_rows
  pub empty : Empty w to most_vertices

-- of the rows from `base` on, only those of vertices where an edge of the list starts have any vertex
pub record SourcesClearable (edges w : List ℕ) (base : ℕ) : Type 0 where
  pub outgoing : Outgoing edges
  pub long : least_work ≤ length w
  pub base_rows : base + most_vertices ≤ work_rows
  pub sources : (a t : ℕ) → a < most_vertices → t < most_vertices → On w (base + a) t → Starting edges a

-- the rows from `from` on are one half, and the other half is empty; each with any vertex is of a vertex in row `starts`, where an edge of
-- `behind` starts; and there is room for all edges of `first`
pub record Prependable (first behind w : List ℕ) (from starts : ℕ) (live : List ℕ) : Type 0 where
  pub long : least_work ≤ length w
  pub half : (from ≡ step_rows) ⊎ (from ≡ parent_rows)
  pub starts_row : starts < work_rows
  pub outgoing : Outgoing first × Outgoing behind
  pub quiet : Empty w (parent_rows - from) most_vertices
  pub sources : (a t : ℕ) → a < most_vertices → t < most_vertices → On w (from + a) t → On w starts a × Starting behind a
  pub room : length first ≤ length live

-- the other half is then where the edges of `first` lead, and the half from `from` on empty
pub record Prepends (first w w' : List ℕ) (from : ℕ) : Type 0 where
  pub keeps : KeepsRows w w' (λ r. saved_rows ≤ r)
  pub quiet : Empty w' from most_vertices
  pub rows : (a : ℕ) → a < most_vertices → Row w' (parent_rows - from + a) (LeadsInto first w from a)
