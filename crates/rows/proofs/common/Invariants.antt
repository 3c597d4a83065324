-- `rows::common` meets its contract. The invariant: no vertex of the numbers passed is in both rows.
use Rattle.rows.proofs.Passed.{Gap, Both}
use Rattle.rows.proofs.common.Given as goal

abbrev pub invariant-loop-i : goal.invariant-loop-i
invariant-loop-i l = Gap (Both l.w l.a l.b) 0 l.i
