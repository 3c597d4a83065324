-- Starts whose walks are one step: nothing that they step to starts a step itself.
use Rattle.std.specs.Prelude.{◌≡◌, List, ◌≢◌, ℕ, ◌/◌, ◌<◌, Option, OnSome}
use Rattle.model.specs.Limits.{most_vertices}
use Rattle.model.specs.Lists.{◌∈◌}
use Rattle.model.specs.Edges.{from_of}
use Rattle.model.specs.Build.Hubs.{Direct}
use Rattle.rows.specs.Region.{work_rows, rest_row}
use Rattle.rows.specs.Rows.{On, Row, StepsTo, Domain}
use Rattle.staging.specs.Stage.{HasTaken, Stages}

-- no vertex to which s steps is in row d
pub record Single (w : List ℕ) (d s : ℕ) : Type 0 where
  pub none : (t : ℕ) → StepsTo w s t → On w d t → ⊥

-- e is the entry for a step from such a start
pub record LastStep (w : List ℕ) (d code e : ℕ) : Type 0 where
  pub start : ℕ
  pub single : Single w d start
  pub direct : Direct (StepsTo w) code start e

-- the rows that staging from all such starts keeps
abbrev pub Unsplit : ℕ → Type 0
Unsplit r = (r < work_rows) × (r ≢ rest_row)

-- a steps to b, a vertex of number i of a row
abbrev pub StepsWithin : List ℕ → ℕ → ℕ → ℕ → Type 0
StepsWithin w i a b = StepsTo w a b × (b / 64 ≡ i)

-- s is a vertex, and cnt slots are taken
pub record StepsStageable (w : List ℕ) (s cnt : ℕ) : Type 0 where
  pub vertex : s < most_vertices
  pub taken : HasTaken w cnt

-- row d has every vertex that steps anywhere, an edge of the list starts at each of its vertices, and cnt slots are taken
pub record SinglesStageable (edges w : List ℕ) (d cnt : ℕ) : Type 0 where
  pub domain : Domain w d
  pub small : (x : ℕ) → x ∈ edges → from_of x < most_vertices
  pub listed : (s : ℕ) → s < most_vertices → On w d s → (x : ℕ) × ((x ∈ edges) × (from_of x ≡ s))
  pub taken : HasTaken w cnt

-- the entries for their steps are staged, and row `rest` is the other vertices of row d if they fit
pub record StagesSingles (w : List ℕ) (d code cnt : ℕ) (w' : List ℕ) (r : Option ℕ) : Type 0 where
  pub stages : Stages w Unsplit (LastStep w d code) cnt w' r
  pub rest : OnSome r (Row w' rest_row (λ s. On w d s × (Single w d s → ⊥)))
