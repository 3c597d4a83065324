-- `totals::count_labels` meets its contract: the edges of the pairs passed are counted, and both tables together have the totals where none is left.
use Prim.Native.Nat.{◌*◌}
use Rattle.totals.proofs.Totalling.{Totalled}
use Rattle.totals.proofs.count_labels.Given as goal

abbrev pub invariant-loop-x : goal.invariant-loop-x
invariant-loop-x l = Totalled l.edges l.counts (2 * l.x-index)
