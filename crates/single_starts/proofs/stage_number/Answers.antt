use Prim.Native.Nat.{◌+◌, ◌*◌}
use native.Mathlib.Omega.{arith}
use Rattle.rows.specs.Region.{row_numbers}
use Rattle.single_starts.proofs.Numbers.{numbering_none, numbering_full, numbering_more}
use Rattle.single_starts.proofs.stage_number.Goals as goal

pub loop-x-init : goal.loop-x-init
loop-x-init c =
    let a = c.args in
    numbering_none a.w.now a.s a.i c.requires.0.taken (omega (arith, c.type_inv.w (a.s * row_numbers + a.i)))

pub returns-in_err-n : goal.returns-in_err-n
returns-in_err-n c =
    let pre = c.requires in
    let full = rw c.in_err-n.was at c.put.ensures in
    rw c.from_residual.ensures
    (numbering_full c.loop-x.invariant pre.0.vertex pre.1 c.args.code.fits c.loop-x-test.true c.joined.ensures full)

pub loop-x-preserved : goal.loop-x-preserved
loop-x-preserved c =
    let pre = c.requires in
    let more = rw c.in_ok-n.was at c.put.ensures in
    numbering_more c.loop-x.invariant pre.0.vertex pre.1 c.args.code.fits c.loop-x-test.true c.joined.ensures more
