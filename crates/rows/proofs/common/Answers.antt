use Prim.Native.Nat.{◌+◌, ◌*◌}
use native.Mathlib.Omega.{arith}
use Rattle.rows.specs.Region.{row_numbers}
use Rattle.rows.proofs.Passed.{gap_none, both_number, both_found, both_all}
use Rattle.rows.proofs.common.Goals as goal

pub loop-i-init : goal.loop-i-init
loop-i-init c = gap_none _ _ _ (omega arith)

pub returns-then-x-ne0 : goal.returns-then-x-ne0
returns-then-x-ne0 c =
    both_found
    _ _ _
    c.loop-i.invariant
    c.loop-i-test.true
    c.if-x-ne0.true
    (omega (arith, c.type_inv.w (c.args.a * row_numbers + c.loop-i.i)))

pub loop-i-preserved : goal.loop-i-preserved
loop-i-preserved c = both_number _ _ _ c.loop-i.invariant c.loop-i-test.true c.if-x-ne0.false

pub returns : goal.returns
returns c = both_all _ _ _ c.loop-i.invariant (omega arith)
