use native.Mathlib.Omega.{arith}
use Rattle.suffixes.proofs.Labels.{leaves_stageable, leaves_more, leaves_over, leaves_all}
use Rattle.suffixes.proofs.leaves.Goals as goal

pub leaf-requires : goal.leaf-requires
leaf-requires c =
    (leaves_stageable c.requires c.loop-c.invariant (omega (arith, c.requires.listable, c.loop-c.auto.live)), omega (arith, c.loop-c-test.true))

pub returns-in_err-n : goal.returns-in_err-n
returns-in_err-n c =
    let pre = c.requires in
    let over = leaves_more pre c.loop-c.invariant (rw c.in_err-n.was at c.leaf.ensures) in
    rw c.from_residual.ensures (leaves_over pre over (omega (arith, c.loop-c-test.true)))

pub loop-c-preserved : goal.loop-c-preserved
loop-c-preserved c = leaves_more c.requires c.loop-c.invariant (rw c.in_ok-n.was at c.leaf.ensures)

pub returns : goal.returns
returns c = leaves_all c.requires c.loop-c.invariant (omega (arith, c.loop-c.auto.c-end)) (omega (arith, c.loop-c-test.false))
