use native.Mathlib.Omega.{arith}
use Rattle.memory.proofs.Mix.{front_full}
use Rattle.memory.proofs.Copying.{narrow_start, narrow_turn, narrow_fits}
use Rattle.memory.proofs.narrow.Goals as goal

pub loop-i-init : goal.loop-i-init
loop-i-init c = narrow_start _ _ c.requires.0

pub overflow_cast-to : goal.overflow_cast-to
overflow_cast-to c =
    let a = c.args in
    omega (arith, narrow_fits a.to.now a.from.now c.requires.0 c.requires.1 c.loop-i.i (omega arith))

pub loop-i-preserved : goal.loop-i-preserved
loop-i-preserved c = narrow_turn _ _ c.requires.0 c.loop-i.invariant (omega arith)

pub shape_of-to : goal.shape_of-to
shape_of-to c = c.loop-i.invariant.size

pub returns : goal.returns
returns c = front_full c.loop-i.invariant (omega arith)
