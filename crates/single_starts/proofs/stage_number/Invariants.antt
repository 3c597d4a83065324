-- `single_starts::stage_number` meets its contract: the entries for the bits that are cleared in x are staged.
use Rattle.single_starts.proofs.Numbers.{Numbering}
use Rattle.single_starts.proofs.stage_number.Given as goal

abbrev pub invariant-loop-x : goal.invariant-loop-x
invariant-loop-x l = Numbering l.initial.w l.s l.i l.code.number l.cnt l.w l.n l.x

abbrev pub decreases-loop-x : goal.decreases-loop-x
decreases-loop-x l = l.x
