-- From staged entries to index memory.
use Rattle.std.specs.Prelude.{◌≡◌, List, map, ℕ, ◌≤◌, ◌<◌, length}
use Rattle.model.specs.Limits.{most_vertices}
use Rattle.model.specs.Lists.{◌∈◌, filled}
use Rattle.model.specs.Computed.Query.{side_of, owner_of, hub_of}
use Rattle.model.specs.Build.Renumber.{translate}
use Rattle.sort.specs.Order.{Distinct, Sortable, Sorts}

-- entries whose owners and hubs are ranks of an order in memory
pub record Translatable (order staged : List ℕ) : Type 0 where
  pub order_small : (v : ℕ) → v ∈ order → v < most_vertices
  pub sides : (x : ℕ) → x ∈ staged → side_of x < 2
  pub owners : (x : ℕ) → x ∈ staged → owner_of x < length order
  pub hubs : (x : ℕ) → x ∈ staged → hub_of x < length order

-- there are slots for them, and put back they differ and are of so many bits as the sort takes, 33
pub record IndexWritable (order staged index : List ℕ) : Type 0 where
  pub fits : length staged ≤ length index
  pub translatable : Translatable order staged
  pub distinct : Distinct (map (translate order) staged)
  pub narrow : Sortable (map (translate order) staged)

-- index memory is the staged numbers in rising order, and zeros behind them
pub record WritesIndex (staged index index' : List ℕ) : Type 0 where
  pub sorted : List ℕ
  pub sorts : Sorts staged sorted
  pub is : index' ≡ filled (length index) sorted
