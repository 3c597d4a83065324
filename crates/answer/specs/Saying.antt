-- What the answer to a query needs, and what it says of the entries that it is put to.
use Rattle.std.specs.Prelude.{◌≡◌, Bool, true, List, ℕ, ◌≤◌, ◌<◌}
use Rattle.model.specs.Limits.{most_vertices, most_longest}
use Rattle.model.specs.Lists.{◌∈◌, Rising}
use Rattle.model.specs.Patterns.{Keyed}
use Rattle.model.specs.Computed.Query.{entry?, answers?}

-- rising numbers, a pattern, and ends that are numbers of a field
pub record Answerable (index pattern : List ℕ) (start destination : ℕ) : Type 0 where
  pub rises : Rising index
  pub keyed : Keyed most_longest pattern
  pub start_small : start < most_vertices
  pub destination_small : destination < most_vertices

-- rising entries of a graph
pub record Indexed (vertices longest : ℕ) (index : List ℕ) : Type 0 where
  pub rises : Rising index
  pub valid : (x : ℕ) → x ∈ index → entry? vertices longest x ≡ true

-- the answer to a query by pattern l from s to t, for whatever graph the entries are of. (With more than most_vertices an entry number has several readings.)
pub record Says (index l : List ℕ) (s t : ℕ) (answer : Bool) : Type 0 where
  pub is : (vertices longest : ℕ) → vertices ≤ most_vertices → s < vertices → t < vertices → Indexed vertices longest index → answer ≡ answers? vertices index l s t
