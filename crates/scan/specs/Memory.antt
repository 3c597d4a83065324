-- Index memory as check 12 finds it.
use Rattle.std.specs.Prelude.{cond, List, ℕ, ◌+◌, length}
use Rattle.model.specs.Edges.{standing}
use Rattle.model.specs.Computed.Query.{rising_entries?, index_memory?}
use Rattle.std.specs.Prelude.{Option, Some, None}

-- check 12: the number of entries, or that this is no index memory of the graph
unfoldable pub extent_of : ℕ → ℕ → List ℕ → Option ℕ
extent_of vertices longest xs = cond (index_memory? vertices longest xs) (Some (length (standing xs))) None

-- what check 12 finds if i entries stand before s, the last of them prev
unfoldable pub scan_from : ℕ → ℕ → ℕ → ℕ → List ℕ → Option ℕ
scan_from vertices longest prev i s = cond (rising_entries? vertices longest prev s) (Some (i + length (standing s))) None
