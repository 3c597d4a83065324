use native.Mathlib.Omega.{arith}
use mathlib.Core.Path.{◌∙◌}
use lib.ListN.{length-set}
use Rattle.reachable.proofs.AllLevels.{tabulates_more}
use Rattle.reachable.proofs.marked.Goals as goal

pub loop-v-preserved : goal.loop-v-preserved
loop-v-preserved c = (length-set _ _ _ ∙ c.loop-v.invariant.0, tabulates_more (omega arith) c.loop-v.invariant.1)
