-- `scan::skim` meets its contract.
use Rattle.scan.proofs.Skimming.{Skimmed}
use Rattle.scan.proofs.skim.Given as goal

abbrev pub invariant-loop-i : goal.invariant-loop-i
invariant-loop-i l = Skimmed l.index l.from l.prev l.end l.hubs l.seen l.i l.last
