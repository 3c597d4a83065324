use native.Mathlib.Omega.{arith}
use Rattle.rows.specs.Rows.{cell}
use Rattle.steps.proofs.Gathering.{gathering_more}
use Rattle.steps.proofs.gather.Goals as goal

pub overflow_add-n : goal.overflow_add-n
unfolding cell
overflow_add-n c = omega (arith, c.loop-x.invariant.fits, c.bit.ensures)

pub loop-x-preserved : goal.loop-x-preserved
loop-x-preserved c = gathering_more c.loop-x.invariant c.requires.room c.loop-x-test.true (rw c.from.ensures at c.bit.ensures)
