-- Vertices numbered anew by their rank, and entries put back.
use Rattle.std.specs.Prelude.{List, ℕ, ◌≤◌, ◌<◌, get_or}
use Rattle.model.specs.Limits.{most_label}
use Rattle.model.specs.Lists.{◌∈◌}
use Rattle.model.specs.Edges.{edge_number}
use Rattle.model.specs.Order.{rank}
use Rattle.model.specs.Entries.{entry_of}
use Rattle.model.specs.Computed.Query.{side_of, owner_of, hub_of, code_of}

-- the edges, with both ends replaced by their ranks. (With a label of 16 or more, an edge number would have a second reading.)
pub record Renumbers (n : ℕ) (order edges edges' : List ℕ) : Type 0 where
  pub there : (a c b : ℕ) → a < n → c ≤ most_label → b < n → edge_number a c b ∈ edges → edge_number (rank order a) c (rank order b) ∈ edges'
  pub back : (i c j : ℕ) → i < n → c ≤ most_label → j < n → edge_number i c j ∈ edges' → edge_number (get_or order i 0) c (get_or order j 0) ∈ edges

-- an entry of the renumbered graph with its owner and hub put back
abbrev pub translate : List ℕ → ℕ → ℕ
translate order x = entry_of (side_of x) (get_or order (owner_of x) 0) (get_or order (hub_of x) 0) (code_of x)
