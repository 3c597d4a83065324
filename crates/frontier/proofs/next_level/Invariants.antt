-- `frontier::next_level` meets its contract: after the states before k, work memory has grown by what they lead to.
use Rattle.frontier.specs.Work.{Grown, LedTo}
use Rattle.frontier.proofs.next_level.Given as goal

abbrev pub invariant-loop-k : goal.invariant-loop-k
invariant-loop-k l = Grown l.initial.work l.level.end l.work l.end (LedTo l.search.edges.now l.search.pattern.now l.initial.work l.level.start l.k)
