use Prim.Native.Nat.{◌+◌, ◌*◌}
use native.Mathlib.Omega.{arith}
use Rattle.rows.specs.Region.{row_numbers}
use Rattle.rows.proofs.Passed.{gap_none, passed_number, passed_found, passed_all}
use Rattle.rows.proofs.next.Goals as goal

pub loop-i-init : goal.loop-i-init
loop-i-init c = record { gap = gap_none _ _ _ (omega arith); at = omega arith }

pub returns-then-x-ne0 : goal.returns-then-x-ne0
returns-then-x-ne0 c =
    passed_found
    _ _
    c.loop-i.invariant.gap
    c.loop-i-test.true
    c.loop-i.auto.i
    c.loop-i.invariant.at
    c.if-x-ne0.true
    (omega (arith, c.type_inv.w (c.args.r * row_numbers + c.loop-i.i)))

pub loop-i-preserved : goal.loop-i-preserved
loop-i-preserved c =
    record {
      gap = passed_number _ _ c.loop-i.invariant.gap c.loop-i-test.true c.loop-i.auto.i c.loop-i.invariant.at c.if-x-ne0.false;
      at = omega (arith, c.loop-i.auto.i);
    }

pub returns : goal.returns
returns c = passed_all _ _ c.loop-i.invariant.gap (omega arith)
