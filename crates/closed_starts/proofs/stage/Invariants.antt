-- `closed_starts::stage` meets its contract: the entries of the starts before next_start are staged.
use Prim.Native.Nat.{◌-◌}
use Rattle.model.specs.Limits.{most_vertices}
use Rattle.closed_starts.proofs.Passing.{Through}
use Rattle.closed_starts.proofs.stage.Given as goal

abbrev pub invariant-loop-s : goal.invariant-loop-s
invariant-loop-s l = Through l.initial.w l.code.number l.cnt l.w l.n l.next_start

abbrev pub decreases-loop-s : goal.decreases-loop-s
decreases-loop-s l = most_vertices - l.next_start
