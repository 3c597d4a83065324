use mathlib.Core.Path.{refl, sym, ◌∙◌}
use native.Mathlib.Omega.{arith}
use lib.ListN.{get_or-append}
use lib.Seq.{get_or_at}
use Rattle.edges.proofs.Turned.{tailed_none, tailed_turn, tailed_full}
use Rattle.edges.proofs.first_to_back.Goals as goal

pub loop-i-init : goal.loop-i-init
loop-i-init c = (tailed_none _ c.requires, sym (get_or_at c.args.part.now _ _ 0 _ refl))

pub loop-i-preserved : goal.loop-i-preserved
loop-i-preserved c =
    let (m, e) = c.loop-i.invariant in (
      tailed_turn _ c.requires _ m (omega (arith, c.loop-i-test.true)) (omega (arith, c.loop-i.auto.part, c.loop-i.auto.i, c.loop-i-test.true)) e,
      m.front _ (omega (arith, c.loop-i-test.true)) ∙ sym (get_or-append c.args.part.now _ 0 _ (omega (arith, c.loop-i.auto.i, c.loop-i-test.true))),
    )

pub returns : goal.returns
returns c = tailed_full _ c.requires c.loop-i.invariant.0 c.loop-i-test.false
