-- What the search backward needs, and what it tells.
use Rattle.std.specs.Prelude.{Bool, List, ℕ, ◌≤◌, ◌<◌, length}
use Rattle.model.specs.Limits.{most_vertices, most_edges}
use Rattle.model.specs.Lists.{◌∈◌, Rising}
use Rattle.model.specs.Tables.{Tabulates}
use Rattle.model.specs.Edges.{from_of}
use Rattle.model.specs.Computed.Edges.{bare}
use Rattle.model.specs.Computed.Levels.{runs?}

-- rising edges, each of which has a start that fits the field of an end
pub record Turnable (edges : List ℕ) : Type 0 where
  pub few : length edges ≤ most_edges
  pub rises : Rising edges
  pub starts : (x : ℕ) → x ∈ edges → from_of x < most_vertices

-- a search backward from t: from which vertices a walk runs l to t
pub record TellsTo (vertices : ℕ) (edges l : List ℕ) (t : ℕ) (table : List Bool) : Type 0 where
  pub is : Tabulates vertices table (λ s. runs? (bare vertices edges) l s t)
