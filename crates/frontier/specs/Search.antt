-- What a search over states needs.
use mathlib.Core.Path.{refl, ap₂}
use mathlib.Core.List.{[], ◌∷◌}
use Rattle.std.specs.Coded.{le_prop}
use Rattle.std.specs.Prelude.{◌≡◌, true, List, ℕ, ◌+◌, ◌*◌, ◌%◌, ◌≤◌, ◌<◌, length, get_or}
use Rattle.model.specs.Limits.{most_vertices, most_longest, from_unit, label_unit}
use Rattle.model.specs.States.{vertex_of, used_of}
use Rattle.model.specs.Lists.{◌∈◌, none, next, Rising}
use Rattle.model.specs.Computed.Edges.{edge?}

-- a pattern has 1 to 4 labels
pub record Short (l : List ℕ) : Type 0 where
  pub least : 1 ≤ length l
  pub most : length l ≤ most_longest

-- a search over rising edges of a graph with that many vertices, from one vertex to another, by a pattern of 1 to 4 labels
pub record Searchable (vertices : ℕ) (edges l : List ℕ) (s t : ℕ) : Type 0 where
  pub vertices_small : vertices ≤ most_vertices
  pub rises : Rising edges
  pub valid : (x : ℕ) → x ∈ edges → edge? vertices x ≡ true
  pub short : Short l
  pub start : s < vertices
  pub destination : t < vertices

-- the least number of an edge of the next label from state x, and the least state that such an edge may lead to
abbrev pub key_of : List ℕ → ℕ → ℕ
key_of l x = vertex_of x * from_unit + get_or l (used_of x) 0 * label_unit

abbrev pub base_of : List ℕ → ℕ → ℕ
base_of l x = (used_of x + 1) % length l * most_vertices

-- there is at most one proof of each
below_prop : (x : ℕ) (l : List ℕ) → IsProp ((z : ℕ) → z ∈ l → x < z)
below_prop x l = Prim.hlevel le_prop

pub rising_prop : (l : List ℕ) → IsProp (Rising l)
rising_prop [] none none = refl
rising_prop (x ∷ l) (next h s) (next k t) = ap₂ next (below_prop x l h k) (rising_prop l s t)

pub short_prop : (l : List ℕ) → IsProp (Short l)
short_prop l = Prim.hlevel le_prop
