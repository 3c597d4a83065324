-- What a table of answers says of the entries that the query is put to.
use Rattle.std.specs.Prelude.{Bool, List, ℕ, ◌≤◌, ◌<◌}
use Rattle.model.specs.Limits.{most_vertices}
use Rattle.model.specs.Tables.{Tabulates}
use Rattle.model.specs.Computed.Query.{answers?}
use Rattle.answer.specs.Saying.{Indexed}
use Rattle.answer.specs.declared.Side.{Side}
use Rattle.answer.specs.declared.Side.TheVariants.{Out, In}

-- the answers from s to each vertex, for whatever graph the entries are of
pub record SaysFrom (index l : List ℕ) (s : ℕ) (table : List Bool) : Type 0 where
  pub is : (vertices longest : ℕ) → vertices ≤ most_vertices → s < vertices → Indexed vertices longest index
      → Tabulates vertices table (λ t. answers? vertices index l s t)

-- and from each vertex to t
pub record SaysTo (index l : List ℕ) (t : ℕ) (table : List Bool) : Type 0 where
  pub is : (vertices longest : ℕ) → vertices ≤ most_vertices → t < vertices → Indexed vertices longest index
      → Tabulates vertices table (λ s. answers? vertices index l s t)

-- from a vertex by its out list, and to it by its in list
abbrev pub SaysOf : Side → (index l : List ℕ) → ℕ → List Bool → Type 0
SaysOf Out = SaysFrom
SaysOf In = SaysTo
