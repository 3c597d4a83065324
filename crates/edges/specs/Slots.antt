-- Where the edges of a vertex start.
use Rattle.std.specs.Prelude.{◌≡◌, List, ℕ, ◌*◌, ◌≤◌, ◌<◌, length, get_or}
use Rattle.model.specs.Limits.{most_vertices, from_unit}

-- the numbers before slot n are below key
pub record Under (edges : List ℕ) (key n : ℕ) : Type 0 where
  pub most : n ≤ length edges
  pub below : (j : ℕ) → j < n → get_or edges j 0 < key

-- n is the first slot whose number is at least key, among slots that no number below key follows
pub record Skipped (edges : List ℕ) (key n : ℕ) : Type 0 where
  pub under : Under edges key n
  pub reached : n < length edges → key ≤ get_or edges n 0

-- slot v of the table: no edge before that slot starts at v or above
pub record Starts (edges slots : List ℕ) : Type 0 where
  pub long : length slots ≡ most_vertices
  pub under : (v : ℕ) → v < most_vertices → Under edges (v * from_unit) (get_or slots v 0)
