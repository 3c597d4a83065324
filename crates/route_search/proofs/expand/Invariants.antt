-- `route_search::expand` meets its contract: node k is being taken, and some of its edges are done.
use Prim.Native.Nat.{◌+◌}
use Rattle.model.specs.Computed.Edges.{bare}
use Rattle.route_search.specs.Work.{state_at, During}
use Rattle.route_search.proofs.expand.Given as goal

abbrev pub invariant-loop-edge : goal.invariant-loop-edge
invariant-loop-edge l =
    During (bare l.search.vertices l.search.edges.now) l.search.pattern.now l.search.start l.work l.n l.k (state_at l.initial.work l.k) (l.branch.from + l.edge-index)
