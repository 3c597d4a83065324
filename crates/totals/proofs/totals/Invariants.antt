-- `totals::totals` meets its contract: the totals of the labels up to i are those of both tables together.
use Rattle.totals.proofs.Totalling.{Summed}
use Rattle.totals.proofs.totals.Given as goal

abbrev pub invariant-loop-i : goal.invariant-loop-i
invariant-loop-i l = Summed l.counts l.totals l.i
