use native.Mathlib.Omega.{arith}
use Rattle.model.proofs.Lists.{below_more}
use Rattle.patterns.proofs.Lengths.{repeats_other}
use Rattle.patterns.proofs.repeats.Goals as goal

pub loop-i-init : goal.loop-i-init
loop-i-init c = (omega arith, record { at = λ j h k. absurd (omega arith) })

pub returns-then-pattern-i : goal.returns-then-pattern-i
returns-then-pattern-i c =
    repeats_other _ _ c.requires c.loop-i.invariant.0 c.loop-i-test.true c.if-pattern-i.true

pub loop-i-preserved : goal.loop-i-preserved
loop-i-preserved c = (omega arith, below_more c.loop-i.invariant.1 (λ _. c.if-pattern-i.false))
