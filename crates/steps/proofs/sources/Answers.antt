use Rattle.rows.proofs.Rows.{keeps_has}
use Rattle.steps.proofs.Passing.{from_vertex}
use Rattle.steps.proofs.Filling.{starts_more}
use Rattle.steps.proofs.sources.Goals as goal

pub mark-requires : goal.mark-requires
mark-requires c =
    let small = from_vertex _ _ c.loop-x-test.true c.requires.0 in
    rw c.from.ensures (keeps_has c.loop-x.invariant.keeps (keeps_has c.clear.ensures.keeps c.requires.1), small)

pub loop-x-preserved : goal.loop-x-preserved
loop-x-preserved c = starts_more _ _ c.loop-x-test.true c.loop-x.invariant (rw c.from.ensures at c.mark.ensures)
