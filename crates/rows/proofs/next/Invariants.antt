-- `rows::next` meets its contract. The invariant: row r has no vertex from p on in the numbers passed, and q is where the next is looked at.
use mathlib.Core.Path.{◌≡◌}
use Prim.Native.Nat.{◌*◌, max}
use Rattle.rows.specs.Rows.{On}
use Rattle.rows.proofs.Passed.{Gap}
use Rattle.rows.proofs.next.Given as goal

abbrev pub invariant-loop-i : goal.invariant-loop-i
invariant-loop-i l = record { gap : Gap (On l.w l.r) l.p l.i; at : l.q ≡ max l.p (l.i * 64) }
