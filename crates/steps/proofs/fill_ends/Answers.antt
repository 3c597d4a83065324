use native.Mathlib.Omega.{arith}
use Rattle.steps.proofs.Passing.{from_vertex}
use Rattle.steps.proofs.Filling.{ends_more}
use Rattle.steps.proofs.fill_ends.Goals as goal

pub mark-requires : goal.mark-requires
mark-requires c =
    let small = from_vertex _ _ c.loop-x-test.true c.requires.outgoing in
    rw c.from-edge.ensures (omega arith)

pub loop-x-preserved : goal.loop-x-preserved
loop-x-preserved c = ends_more c.requires c.loop-x-test.true c.loop-x.invariant (rw c.from-edge.ensures at c.mark.ensures)
