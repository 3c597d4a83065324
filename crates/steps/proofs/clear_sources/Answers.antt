use native.Mathlib.Omega.{arith}
use Rattle.steps.proofs.Passing.{from_vertex}
use Rattle.steps.proofs.Filling.{emptying_more, emptying_all}
use Rattle.steps.proofs.clear_sources.Goals as goal

pub clear-requires : goal.clear-requires
clear-requires c =
    let small = from_vertex _ _ c.loop-x-test.true c.requires.outgoing in
    rw c.from.ensures (omega arith)

pub loop-x-preserved : goal.loop-x-preserved
loop-x-preserved c = emptying_more c.loop-x.invariant c.requires.outgoing c.loop-x-test.true (rw c.from.ensures at c.clear.ensures)

pub returns : goal.returns
returns c = emptying_all c.loop-x.invariant c.loop-x-test.false
