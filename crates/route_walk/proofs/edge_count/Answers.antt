use Rattle.route_walk.proofs.Tracing.{counting_start, counting_more}
use Rattle.route_walk.proofs.edge_count.Goals as goal

pub loop-at-init : goal.loop-at-init
loop-at-init c = counting_start c.requires

pub loop-at-preserved : goal.loop-at-preserved
loop-at-preserved c = rw c.from-at.ensures (counting_more c.loop-at.invariant c.loop-at-test.true)
