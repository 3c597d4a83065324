use Rattle.frontier.proofs.Leads.{next_more}
use Rattle.frontier.proofs.next_level.Goals as goal

pub loop-k-preserved : goal.loop-k-preserved
loop-k-preserved c =
    let grown = c.loop-k.invariant in
    next_more _ _ _ c.loop-k.auto.k grown (rw (grown.kept _ c.loop-k-test.true) at c.expand-end.ensures)
