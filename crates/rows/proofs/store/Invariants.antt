-- `rows::store` meets its contract. The invariant: the numbers passed are stored.
use Rattle.rows.proofs.Writes.{Storing}
use Rattle.rows.proofs.store.Given as goal

abbrev pub invariant-loop-i : goal.invariant-loop-i
invariant-loop-i l = Storing l.initial.w l.w l.r l.row l.i
