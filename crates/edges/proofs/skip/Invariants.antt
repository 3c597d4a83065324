-- `edges::skip` meets its contract: the edges passed are below the key.
use Prim.Native.Nat.{◌-◌}
use lib.ListN.{length}
use Rattle.edges.specs.Slots.{Under}
use Rattle.edges.proofs.skip.Given as goal

abbrev pub invariant-loop-i : goal.invariant-loop-i
invariant-loop-i l = Under l.edges l.key l.i

abbrev pub decreases-loop-i : goal.decreases-loop-i
decreases-loop-i l = length l.edges - l.i
