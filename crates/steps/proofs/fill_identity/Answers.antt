use Rattle.steps.proofs.Filling.{identity_more, identity_all}
use Rattle.steps.proofs.fill_identity.Goals as goal

pub loop-a-preserved : goal.loop-a-preserved
loop-a-preserved c = identity_more c.loop-a.invariant c.loop-a-test.true c.mark.ensures

pub returns : goal.returns
returns c = identity_all c.loop-a.invariant c.loop-a-test.false
