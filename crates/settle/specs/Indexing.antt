-- The index that a graph's edges determine, built in index memory.
use Rattle.std.specs.Prelude.{◌≡◌, true, cond, List, ℕ, ◌+◌, ◌≤◌, ltb, length}
use Rattle.model.specs.Limits.{most_edges, least_work}
use Rattle.model.specs.Lists.{◌∈◌, Rising, filled}
use Rattle.model.specs.Edges.{Graph, Bounds}
use Rattle.model.specs.Computed.Edges.{edge?}
use Rattle.model.specs.Computed.Entries.{determined}
use Rattle.build.specs.Build.{Saved}
use Rattle.std.specs.Prelude.{Option, Some, None}

-- a header's numbers and rising edges of its graph; work memory has room for a build
pub record Indexable (vertices longest : ℕ) (edges index work : List ℕ) : Type 0 where
  pub bounds : Bounds vertices longest
  pub few : length edges ≤ most_edges
  pub rises : Rising edges
  pub valid : (x : ℕ) → x ∈ edges → edge? vertices x ≡ true
  pub room : least_work + length index ≤ length work

-- the entries with zeros behind if they fit, else index memory as it was; saved edge memory is kept
pub record Indexes (g : Graph) (index work index' work' : List ℕ) (r : Option ℕ) : Type 0 where
  pub reply : r ≡ cond (ltb (length index) (length (determined g))) None (Some (length (determined g)))
  pub index_is : index' ≡ cond (ltb (length index) (length (determined g))) index (filled (length index) (determined g))
  pub saved : Saved work work'
