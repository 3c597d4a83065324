-- `edges::scan` meets its contract. The invariant: from slot i on, with the last edge passed, the memory says what all of it says.
use mathlib.Core.Path.{◌≡◌}
use lib.ListN.{drop}
use Rattle.edges.specs.Memory.{scan_of}
use Rattle.edges.proofs.Scanning.{scan_from}
use Rattle.edges.proofs.scan.Given as goal

abbrev pub invariant-loop-i : goal.invariant-loop-i
invariant-loop-i l = scan_from l.vertices l.prev l.i (drop l.i l.edges) ≡ scan_of l.vertices l.edges
