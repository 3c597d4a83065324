use mathlib.Core.Path.{◌≡◌, refl, sym, ◌∙◌}
use mathlib.Core.Bool.{false}
use Rattle.middles.proofs.FirstOf.{both, lowest_start, lowest_here, lowest_next, lowest_none}
use Rattle.middles.proofs.lowest.Goals as goal
use Rattle.middles.proofs.lowest.Goals.{else-out-v-via-then-out-v+else-home-v, else-out-v-via-else-out-v}

pub loop-v-init : goal.loop-v-init
loop-v-init c = lowest_start _ _

pub returns-then-home-v : goal.returns-then-home-v
returns-then-home-v c = sym (lowest_here _ _ _ c.loop-v-test.true (rw (c.if-out-v.true, c.if-home-v.true) refl)) ∙ c.loop-v.invariant

pub loop-v-preserved : goal.loop-v-preserved
loop-v-preserved c =
    -- the vertex at hand is not marked in both
    let neither : both c.args.out.now c.args.home.now c.loop-v.v ≡ false =
    elim c.else-out-v.branch [
      | else-out-v-via-then-out-v+else-home-v w ↦ rw (w.if-out-v.true, w.if-home-v.false) refl
      | else-out-v-via-else-out-v w ↦ rw w.if-out-v.false refl
    ] in
    sym (lowest_next _ _ _ c.loop-v-test.true neither) ∙ c.loop-v.invariant

pub returns : goal.returns
returns c = sym (lowest_none _ _ _ c.loop-v-test.false) ∙ c.loop-v.invariant
