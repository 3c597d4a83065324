-- The pairs that the plain check (level search) of document 01 goes over, and its replies.
use Rattle.std.specs.Prelude.{◌≡◌, List, ℕ, suc, ◌+◌, ◌*◌, ◌/◌, ◌%◌, ◌<◌, length, get_or}
use Rattle.model.specs.Limits.{most_vertices}
use Rattle.model.specs.Lists.{◌∈◌}
use Rattle.model.specs.Edges.{Graph, edge_number}

-- a pair (place, colours of L used so far) as one number: used × 256 + vertex. (s, 0) is s itself
abbrev pub state : ℕ → ℕ → ℕ
state v used = used * most_vertices + v

abbrev pub vertex_of : ℕ → ℕ
vertex_of x = x % most_vertices

abbrev pub used_of : ℕ → ℕ
used_of x = x / most_vertices

-- x is a state of the graph: a vertex of it, and fewer labels used than the pattern has
pub record IsState (g : Graph) (l : List ℕ) (x : ℕ) : Type 0 where
  pub bound : x < length l * most_vertices
  pub vertex : vertex_of x < g.vertices

-- "a leg of the next colour leads to" z from x, and z has used one label more, "counted modulo its length"
pub record Leads (edges l : List ℕ) (x z : ℕ) : Type 0 where
  pub next : used_of z ≡ suc (used_of x) % length l
  pub stands : edge_number (vertex_of x) (get_or l (used_of x) 0) (vertex_of z) ∈ edges

-- the replies of document 01: yes c, no c, spent c, each with its number of levels, and refused with a number
pub data Reply : Type 0 where
  Yes No Spent Refused : ℕ → Reply
