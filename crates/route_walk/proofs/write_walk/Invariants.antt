-- `route_walk::write_walk` meets its contract: the slots from i on are written, and the rest of the walk begins at `at`.
use Rattle.route_walk.proofs.Tracing.{WritingWalk}
use Rattle.route_walk.proofs.write_walk.Given as goal

abbrev pub invariant-loop-i : goal.invariant-loop-i
invariant-loop-i l = WritingWalk l.work l.place l.at l.i l.initial.walk l.walk
