use Rattle.closure.proofs.Looked.{opened_whole, opened_none, opened_closed, looked_all, looked_more, looked_falls}
use Rattle.closure.proofs.close_row.Goals as goal

pub loop-p-init : goal.loop-p-init
loop-p-init c = opened_none c.requires c.copy.ensures

pub loop-p-smaller : goal.loop-p-smaller
loop-p-smaller c = looked_falls c.loop-p.invariant c.in-Some.ensures c.take_in.ensures

pub loop-p-preserved : goal.loop-p-preserved
loop-p-preserved c =
    looked_more c.loop-p.invariant c.in-Some.ensures c.take_in.ensures
    c.requires.row (opened_whole c.requires c.copy.ensures)

pub returns : goal.returns
returns c = opened_closed c.requires c.copy.ensures (looked_all c.loop-p.invariant c.in_default.ensures)
