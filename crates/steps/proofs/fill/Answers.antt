use native.Mathlib.Omega.{arith}
use Rattle.steps.proofs.Passing.{from_vertex}
use Rattle.steps.proofs.Filling.{into_more}
use Rattle.steps.proofs.fill.Goals as goal

pub union-requires : goal.union-requires
union-requires c =
    let small = from_vertex _ _ c.loop-x-test.true c.requires.outgoing in
    rw c.from-edge.ensures (omega arith)

pub loop-x-preserved : goal.loop-x-preserved
loop-x-preserved c = into_more c.requires c.loop-x-test.true c.loop-x.invariant (rw c.from-edge.ensures at c.union.ensures)
