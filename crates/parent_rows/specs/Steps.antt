-- Words that lead from vertex to vertex.
use Rattle.std.specs.Prelude.{List, [], ◌∷◌, ℕ, ◌+◌, ◌-◌, ◌*◌, ◌%◌, ◌≤◌, ◌<◌, length, get_or, drop}
use Rattle.model.specs.Limits.{most_vertices, most_label, most_longest, least_work}
use Rattle.model.specs.Lists.{◌∈◌}
use Rattle.model.specs.Edges.{edge_number}
use Rattle.edges.specs.Grouped.{Grouped}
use Rattle.rows.specs.Region.{step_rows, parent_rows, saved_rows, child_rows}
use Rattle.rows.specs.Rows.{On, Row, KeepsRows, Empty}

-- edges in a row from a to t whose labels spell the word
pub data Trail (edges : List ℕ) : ℕ → List ℕ → ℕ → Type 0 where
  here : {a : ℕ} → Trail edges a [] a
  edge : {a c b t : ℕ} {w : List ℕ} → b < most_vertices → edge_number a c b ∈ edges → Trail edges b w t → Trail edges a (c ∷ w) t

-- labels, no more than a pattern has
pub record Word (l : List ℕ) : Type 0 where
  pub short : length l ≤ most_longest
  pub labels : (c : ℕ) → c ∈ l → (1 ≤ c) × (c ≤ most_label)

-- the child row of the word's labels from number i on
abbrev pub source_row : List ℕ → ℕ → ℕ
source_row l i = child_rows + most_label * (length l - 1 - i) + (get_or l i 0 - 1)

-- it has every vertex from which they can be spelled
pub record Sources (edges l w : List ℕ) : Type 0 where
  pub long : least_work ≤ length w
  pub all : (i a t : ℕ) → i < length l → a < most_vertices → Trail edges a (drop i l) t → On w (source_row l i) a

-- the half that the labels from number i on fill: the parent's rows at even numbers, and the step rows at odd ones
abbrev pub half_of : ℕ → ℕ
half_of i = parent_rows - i % 2 * most_vertices

-- row a of the parent's rows is where the word leads from a, for every vertex a
pub record Parent (edges l w : List ℕ) : Type 0 where
  pub rows : (a : ℕ) → a < most_vertices → Row w (parent_rows + a) (Trail edges a l)

-- both kinds of rows are empty, and there is room for all edges
pub record ParentFillable (edges slots l w live : List ℕ) : Type 0 where
  pub grouped : Grouped edges slots
  pub word : Word l
  pub sources : Sources edges l w
  pub quiet : Empty w step_rows (most_vertices + most_vertices)
  pub room : length edges ≤ length live

-- the parent's rows are filled, and the step rows empty
pub record FillsParent (edges l w w' : List ℕ) : Type 0 where
  pub keeps : KeepsRows w w' (λ r. saved_rows ≤ r)
  pub quiet : Empty w' step_rows most_vertices
  pub parent : Parent edges l w'

-- the parent's rows are filled
pub record ParentClearable (edges slots l w : List ℕ) : Type 0 where
  pub grouped : Grouped edges slots
  pub word : Word l
  pub long : least_work ≤ length w
  pub parent : Parent edges l w
