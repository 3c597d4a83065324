-- What the station holds (document 01): the layout as a graph, the numbers of its edges, and edge memory.
use Rattle.std.specs.Prelude.{◌≡◌, cond, List, [], ◌∷◌, map, ℕ, ◌+◌, ◌*◌, ◌/◌, ◌%◌, ◌≤◌, ◌<◌, eqb, length}
use Rattle.model.specs.Lists.{keep, from}
use Rattle.model.specs.Limits.{most_vertices, most_label, most_longest, from_unit, label_unit}

-- A layout: its places (vertices, numbered from 0), its longest pattern k, and its standing legs (edges), as the numbers below.
pub record Graph : Type 0 where
  pub vertices : ℕ
  pub longest : ℕ
  pub edges : List ℕ

-- what checks 1 and 2 leave: "places not 1 to 256", "k not 1 to 4"
pub record Bounds (vertices longest : ℕ) : Type 0 where
  pub vertices_least : 1 ≤ vertices
  pub vertices_most : vertices ≤ most_vertices
  pub longest_least : 1 ≤ longest
  pub longest_most : longest ≤ most_longest

-- "one slot a leg: from × 4,096 + colour × 256 + to"
abbrev pub edge_number : ℕ → ℕ → ℕ → ℕ
edge_number from label to = from * from_unit + label * label_unit + to

abbrev pub from_of : ℕ → ℕ
from_of x = x / from_unit

abbrev pub label_of : ℕ → ℕ
label_of x = x / label_unit % (from_unit / label_unit)

abbrev pub to_of : ℕ → ℕ
to_of x = x % label_unit

-- x is the number of an edge of a graph with that many vertices, "a colour 1 to 8"
pub record OfEdge (vertices x : ℕ) : Type 0 where
  pub from : ℕ
  pub label : ℕ
  pub to : ℕ
  pub ends : (from < vertices) × (to < vertices)
  pub labelled : (1 ≤ label) × (label ≤ most_label)
  pub is : x ≡ edge_number from label to

-- the edges that stand in edge memory: the slots before the first zero
unfoldable pub standing : List ℕ → List ℕ
standing [] = []
standing (x ∷ xs) = let more = x ∷ standing xs in cond (eqb x 0) [] more

-- how many edges have a label, and that of labels 1 to 8 (document 02, Four): "eight totals, the legs of each colour"
unfoldable pub total_of : List ℕ → ℕ → ℕ
total_of edges label = length (keep (λ x. eqb (label_of x) label) edges)

unfoldable pub totals_of : List ℕ → List ℕ
totals_of edges = map (total_of edges) (from 1 most_label)
