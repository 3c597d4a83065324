use native.Mathlib.Omega.{arith}
use Rattle.card_writing.proofs.Writing.{body_start, edge_narrow, body_turn, body_end}
use Rattle.card_writing.proofs.write_edges.Goals as goal

pub loop-i-init : goal.loop-i-init
loop-i-init c = body_start c.requires

pub overflow_cast-output : goal.overflow_cast-output
overflow_cast-output c = rw c.from-edge.ensures (omega (arith, edge_narrow c.requires c.loop-i.i (omega arith)))

pub loop-i-preserved : goal.loop-i-preserved
loop-i-preserved c = rw c.from-edge.ensures (body_turn c.requires c.loop-i.invariant (omega arith))

pub returns : goal.returns
returns c = body_end c.requires c.loop-i.invariant (omega arith)
