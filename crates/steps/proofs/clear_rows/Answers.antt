use Rattle.steps.proofs.Kept.{clears_more}
use Rattle.steps.proofs.clear_rows.Goals as goal

pub loop-i-preserved : goal.loop-i-preserved
loop-i-preserved c = clears_more c.loop-i.invariant c.clear.ensures
