-- `closure::close` meets its contract: the rows before `from` have been closed.
use Prim.Native.Nat.{◌-◌, ◌≤◌}
use Rattle.model.specs.Limits.{most_vertices}
use Rattle.closure.proofs.Closing.{Closing}
use Rattle.closure.proofs.close.Given as goal

abbrev pub invariant-loop-a : goal.invariant-loop-a
invariant-loop-a l = record { closing : Closing l.initial.w l.w l.from; high : l.from ≤ most_vertices }

abbrev pub decreases-loop-a : goal.decreases-loop-a
decreases-loop-a l = most_vertices - l.from
