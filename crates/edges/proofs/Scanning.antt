-- The loop of check 3: the slots from i on say what all of them say.
use mathlib.Core.Path.{◌≡◌}
use mathlib.Core.List.{List}
use Prim.Native.Nat.{ℕ, ◌≤◌, ◌<◌}
use native.Mathlib.Nat.{zero-add}
use lib.ListN.{length}
use borrow.Author.Tests.{le-leb, lt-leb}
use Rattle.std.specs.Prelude.{Option, Some, None}
use Rattle.model.specs.Limits.{most_edges}
use Rattle.model.specs.Computed.Edges.{edge?, rising_edges?, edge_memory?}
use Rattle.model.proofs.Checked.{checked_from}
use Rattle.edges.specs.Memory.{scan_of}

-- what check 3 finds if i edges stand before s, the last of them prev
abbrev pub scan_from : ℕ → ℕ → ℕ → List ℕ → Option ℕ
scan_from vertices prev i s = checked_from Some None (edge? vertices) prev i s

module _ (vertices : ℕ) (s : List ℕ) where
  pub scan_long : most_edges < length s → scan_of vertices s ≡ None
  unfolding scan_of edge_memory?
  scan_long h = rw (lt-leb (length s) most_edges h)

  pub scan_start : length s ≤ most_edges → scan_from vertices 0 0 s ≡ scan_of vertices s
  unfolding scan_of edge_memory? rising_edges?
  scan_start h = rw (le-leb (length s) most_edges h, zero-add)
