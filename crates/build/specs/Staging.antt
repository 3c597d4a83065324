-- The first part of building: the entries staged with ranks for vertices.
use Rattle.std.specs.Prelude.{List, ℕ, take, drop, Option}
use Rattle.model.specs.Limits.{least_work}
use Rattle.model.specs.Lists.{up_to}
use Rattle.model.specs.Entries.{IsEntry}
use Rattle.model.specs.Build.Renumber.{Renumbers}
use Rattle.rows.specs.Region.{saved_rows, root_row}
use Rattle.rows.specs.Rows.{InRows}
use Rattle.staging.specs.Stage.{Stages}

-- the entries of the renumbered graph, whose vertices are in their own order, are staged: Some n of them, or there are more than slots
pub record GraphStages (vertices longest : ℕ) (edges order w w' : List ℕ) (r : Option ℕ) : Type 0 where
  pub edges' : List ℕ
  pub renumbers : Renumbers vertices (take vertices order) edges edges'
  pub stages : Stages w (InRows saved_rows root_row) (IsEntry (record { vertices = vertices; longest = longest; edges = edges' }) (up_to vertices)) 0 w' r

-- the first r numbers staged, as a list
abbrev pub staged_list : List ℕ → ℕ → List ℕ
staged_list w r = take r (drop least_work w)
