-- `pattern_entries::stage_filled` meets its contract: single steps staged; then, if there is room, the other rows closed and staged.
use Rattle.pattern_entries.proofs.Stepping.{filled_over, closable, stageable, filled_all}
use Rattle.pattern_entries.proofs.stage_filled.Goals as goal

pub returns-in_err-n : goal.returns-in_err-n
returns-in_err-n c = rw c.from_residual.ensures (filled_over c.requires c.args.code.fits (rw c.in_err-n.was at c.stage_singles.ensures))

pub close-requires : goal.close-requires
close-requires c = closable c.requires c.args.code.fits (rw c.in_ok-n.was at c.stage_singles.ensures)

pub stage-requires : goal.stage-requires
stage-requires c = stageable c.requires c.args.code.fits (rw c.in_ok-n.was at c.stage_singles.ensures) c.close.ensures

pub returns : goal.returns
returns c = filled_all c.requires c.args.code.fits (rw c.in_ok-n.was at c.stage_singles.ensures) c.close.ensures c.stage.ensures
