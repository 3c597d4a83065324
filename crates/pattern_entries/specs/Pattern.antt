-- Staging the entries of one pattern: a label, whose edges are listed, and the parent's word behind it.
use Rattle.std.specs.Prelude.{List, ℕ, ◌≤◌, ◌<◌, Option}
use Rattle.model.specs.Limits.{most_vertices}
use Rattle.model.specs.Build.Hubs.{EntryBy, Plus}
use Rattle.rows.specs.Region.{step_rows, parent_rows, child_rows, open_row}
use Rattle.rows.specs.Rows.{Row, InRows, Empty, StepsTo}
use Rattle.staging.specs.Stage.{HasTaken, Stages}
use Rattle.steps.specs.Filling.{Outgoing, Starting, LeadsInto}

-- an edge of the list and then the parent's word lead from a to b
pub record Led (edges w : List ℕ) (a b : ℕ) : Type 0 where
  pub from : a < most_vertices
  pub to : b < most_vertices
  pub via : LeadsInto edges w parent_rows a b

-- the step rows are empty, row `starts` is the vertices where an edge of the list starts, and cnt slots are taken
pub record PatternStageable (edges w : List ℕ) (starts cnt : ℕ) : Type 0 where
  pub outgoing : Outgoing edges
  pub least : child_rows ≤ starts
  pub most : starts < open_row
  pub quiet : Empty w step_rows most_vertices
  pub sources : Row w starts (Starting edges)
  pub taken : HasTaken w cnt

-- the entries of P are staged: the parent's rows and those behind are kept, and the step rows end empty
pub record PatternStages (w : List ℕ) (P : ℕ → Type 0) (cnt : ℕ) (w' : List ℕ) (r : Option ℕ) : Type 0 where
  pub stages : Stages w (InRows parent_rows open_row) P cnt w' r
  pub quiet : Empty w' step_rows most_vertices

-- the entries by where the edges and the word lead, once or more
abbrev pub LedEntry : List ℕ → List ℕ → ℕ → ℕ → Type 0
LedEntry edges w code = EntryBy (Plus (Led edges w)) code

-- ---- on the way

-- the entries by the steps are staged, one step or more; no other vertices step anywhere then
pub record StepsStaged (w : List ℕ) (code cnt : ℕ) (w' : List ℕ) (r : Option ℕ) : Type 0 where
  pub stages : Stages w (InRows parent_rows open_row) (EntryBy (Plus (StepsTo w)) code) cnt w' r
  pub starts : (a b : ℕ) → StepsTo w' a b → (m : ℕ) × StepsTo w a m
