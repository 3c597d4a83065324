-- `parent_rows::fill_parent` meets its contract: the labels from number i on have filled their half, and the other half is empty.
use Rattle.parent_rows.proofs.Turning.{Turning}
use Rattle.parent_rows.proofs.fill_parent.Given as goal

abbrev pub invariant-loop-i : goal.invariant-loop-i
invariant-loop-i l = Turning l.edges l.word l.initial.w l.w l.i
