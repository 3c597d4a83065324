use native.Mathlib.Omega.{arith}
use Rattle.route_walk.proofs.Tracing.{writing_start, writing_more, writing_end}
use Rattle.route_walk.proofs.write_walk.Goals as goal

pub loop-i-init : goal.loop-i-init
loop-i-init c = writing_start c.requires.0 c.requires.1.0 c.requires.1.1

pub loop-i-preserved : goal.loop-i-preserved
loop-i-preserved c = rw c.from-node.ensures (writing_more c.loop-i.invariant c.loop-i-test.true)

pub returns : goal.returns
returns c = writing_end c.loop-i.invariant (omega arith)
