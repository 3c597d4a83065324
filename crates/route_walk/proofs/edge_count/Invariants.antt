-- `route_walk::edge_count` meets its contract: n links are read, and the rest begins at `at`.
use Rattle.route_walk.proofs.Tracing.{CountingLinks}
use Rattle.route_walk.proofs.edge_count.Given as goal

abbrev pub invariant-loop-at : goal.invariant-loop-at
invariant-loop-at l = CountingLinks l.work l.place l.at l.n

abbrev pub decreases-loop-at : goal.decreases-loop-at
decreases-loop-at l = l.at
