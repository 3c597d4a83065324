-- Settling a change that is tried: edge memory holds the wanted edges already, and work memory keeps what it held before.
use Rattle.std.specs.Prelude.{◌≡◌, Result, true, List, ℕ, ◌+◌, ◌≤◌, length, take, drop}
use Rattle.model.specs.Limits.{most_edges, least_work}
use Rattle.model.specs.Lists.{◌∈◌, Rising, filled}
use Rattle.model.specs.Edges.{Bounds}
use Rattle.model.specs.Replies.{answer_of}
use Rattle.model.specs.Computed.Edges.{edge?}
use Rattle.model.specs.declared.Refusal.{Refusal}
use Rattle.memory.specs.Widths.{Narrow}
use Rattle.calls.specs.Call.{Size, lent, Meets}
use Rattle.calls.specs.Change.{settle}
use Rattle.rows.specs.Region.{saved_numbers}

-- what edge memory held, as saved in work memory: as many numbers as it has slots
abbrev pub saved_in : (work edges : List ℕ) → List ℕ
saved_in work edges = take (length edges) (drop saved_numbers work)

-- saving: edge memory's numbers stand in work memory, which is as long as it was
pub record Saves (edges work work' : List ℕ) : Type 0 where
  pub saved : saved_in work' edges ≡ edges
  pub narrow : Narrow edges
  pub work_long : length work' ≡ length work

-- n rising edges of the graph and then zeros stand in edge memory, and work memory has room for a build
pub record Settleable (size : Size) (n : ℕ) (edges index work : List ℕ) : Type 0 where
  pub bounds : Bounds size.vertices size.longest
  pub few : length edges ≤ most_edges
  pub fits : n ≤ length edges
  pub zeros : edges ≡ filled (length edges) (take n edges)
  pub rises : Rising (take n edges)
  pub valid : (x : ℕ) → x ∈ take n edges → edge? size.vertices x ≡ true
  pub room : least_work + length index ≤ length work
  pub narrow : Narrow (saved_in work edges)

-- the answer and memory afterwards are those of settling, from the edge memory that was saved
abbrev pub Settles : (size : Size) (n : ℕ) (edges index work : List ℕ) (r : Result (Unit {0}) Refusal) (edges' index' work' : List ℕ) → Type 0
Settles size n edges index work r edges' index' work' =
    Meets (settle size (take n edges) (lent (saved_in work edges) index work)) (answer_of r) (lent edges' index' work')
