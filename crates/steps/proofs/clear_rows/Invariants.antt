-- `steps::clear_rows` meets its contract: the i rows from `base` on are empty.
use Rattle.steps.specs.Filling.{Clears}
use Rattle.steps.proofs.clear_rows.Given as goal

abbrev pub invariant-loop-i : goal.invariant-loop-i
invariant-loop-i l = Clears l.initial.w l.w l.base l.i
