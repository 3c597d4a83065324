use native.Mathlib.Omega.{arith}
use Rattle.model.proofs.Lists.{get_d_in}
use Rattle.memory.proofs.Mix.{front_full}
use Rattle.backward.proofs.turn_each.Goals as goal

pub turned-requires : goal.turned-requires
turned-requires c = c.requires.0.starts _ (get_d_in c.args.edges.now _ c.loop-i-test.true)

pub returns : goal.returns
returns c = front_full c.loop-i.invariant (omega arith)
