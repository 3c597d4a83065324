use mathlib.Core.Path.{refl}
use native.Mathlib.Numerals.{add-one}
use native.Mathlib.Omega.{arith}
use Rattle.edges.proofs.Turned.{led_none, led_turn}
use Rattle.memory.proofs.Mix.{front_full}
use Rattle.edges.proofs.last_to_front.Goals as goal

pub loop-i-init : goal.loop-i-init
loop-i-init c = (led_none _ c.requires, refl)

pub loop-i-preserved : goal.loop-i-preserved
loop-i-preserved c =
    let (m, e) = c.loop-i.invariant in
    (led_turn _ c.requires m (omega (arith, c.loop-i.auto.part, c.loop-i-test.true)) e, rw add-one (m.back c.loop-i.i (omega arith)))

pub returns : goal.returns
returns c = front_full c.loop-i.invariant.0 (omega (arith, c.loop-i.auto.part, c.loop-i-test.false))
