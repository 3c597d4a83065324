-- `frontier::expand` meets its contract: after some of the edges, work memory has grown by the states that those of the branch lead to.
use Prim.Native.Nat.{◌+◌}
use Rattle.frontier.specs.Work.{Grown}
use Rattle.frontier.proofs.Spreading.{Ahead}
use Rattle.frontier.proofs.expand.Given as goal

abbrev pub invariant-loop-edge : goal.invariant-loop-edge
invariant-loop-edge l = Grown l.initial.work l.tail l.work l.n (Ahead l.search.edges.now (l.branch.from + l.edge-index) l.branch.key l.branch.base)
