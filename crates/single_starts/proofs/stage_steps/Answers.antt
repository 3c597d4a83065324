use Rattle.single_starts.proofs.Numbers.{row_over, row_then}
use Rattle.single_starts.proofs.stage_steps.Goals as goal

pub returns-in_err-n : goal.returns-in_err-n
returns-in_err-n c =
    let pre = c.requires in
    let t = rw c.in_err-n.was at c.stage_number.ensures in
    rw c.from_residual.ensures (row_over (row_then c.loop-i.invariant pre.vertex c.args.code.fits t))

pub loop-i-preserved : goal.loop-i-preserved
loop-i-preserved c =
    let pre = c.requires in
    row_then c.loop-i.invariant pre.vertex c.args.code.fits (rw c.in_ok-n.was at c.stage_number.ensures)
