-- `reachable::flood` meets its contract: work memory stands at some level, and when that level is empty all are built.
use Prim.Native.Nat.{suc, ◌-◌}
use Rattle.model.specs.Computed.Levels.{most_states}
use Rattle.reachable.proofs.AllLevels.{Flooding}
use Rattle.reachable.proofs.flood.Given as goal

abbrev pub invariant-loop-level : goal.invariant-loop-level
invariant-loop-level l = Flooding l.search.vertices l.search.edges.now l.search.pattern.now l.search.start l.work l.level.start l.level.end

-- the queue has at most 1,025 states
abbrev pub decreases-loop-level : goal.decreases-loop-level
decreases-loop-level l = suc most_states - l.level.start
