-- `single_starts::stage_steps` meets its contract: the entries for the steps to the vertices of the numbers before i are staged.
use Rattle.std.specs.Prelude.{Some}
use Rattle.single_starts.proofs.Numbers.{RowStaged}
use Rattle.single_starts.proofs.stage_steps.Given as goal

abbrev pub invariant-loop-i : goal.invariant-loop-i
invariant-loop-i l = RowStaged l.initial.w l.s l.code.number l.cnt l.w (Some l.n) l.i
