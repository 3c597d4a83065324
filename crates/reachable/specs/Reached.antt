-- What the search from one vertex for every vertex tells.
use Rattle.std.specs.Prelude.{◌≡◌, Bool, List, ℕ, ◌<◌, get_or, eqb}
use Rattle.model.specs.Tables.{Tabulates}
use Rattle.model.specs.Computed.Edges.{bare}
use Rattle.model.specs.Computed.Levels.{runs?}

-- all levels are built: the mark of t says whether a walk from s runs l to it
pub record Flooded (vertices : ℕ) (edges l : List ℕ) (s : ℕ) (work : List ℕ) : Type 0 where
  pub is : (t : ℕ) → t < vertices → eqb (get_or work t 0) 1 ≡ runs? (bare vertices edges) l s t

-- a search from s for every vertex: which of them a walk from s runs l to
pub record TellsFrom (vertices : ℕ) (edges l : List ℕ) (s : ℕ) (table : List Bool) : Type 0 where
  pub is : Tabulates vertices table (λ t. runs? (bare vertices edges) l s t)
