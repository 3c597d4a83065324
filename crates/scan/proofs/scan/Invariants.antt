-- `scan::scan` meets its contract. The invariant: from slot i on, with the last entry passed, the memory says what all of it says; the codes
-- seen are codes, and up to `end` side and owner are right.
use mathlib.Core.Path.{◌≡◌}
use Prim.Native.Nat.{◌-◌, ◌≤◌}
use lib.ListN.{length, drop}
use Rattle.scan.specs.Memory.{extent_of, scan_from}
use Rattle.scan.specs.Scan.{Seen, Within}
use Rattle.scan.proofs.scan.Given as goal

abbrev pub invariant-loop-at : goal.invariant-loop-at
invariant-loop-at l =
    (l.i ≤ length l.index)
    × ((scan_from l.size.vertices l.size.longest l.prev l.i (drop l.i l.index) ≡ extent_of l.size.vertices l.size.longest l.index) × (Seen l.size.longest l.seen × Within l.size.vertices l.prev l.end))

abbrev pub decreases-loop-at : goal.decreases-loop-at
decreases-loop-at l = length l.index - l.i
