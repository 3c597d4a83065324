use native.Mathlib.Omega.{arith}
use Rattle.scan.proofs.Skimming.{skim_start, skim_rest, skim_end, skim_untested, skim_stray, skim_more}
use Rattle.scan.proofs.skim.Goals as goal

pub loop-i-init : goal.loop-i-init
loop-i-init c = skim_start c.requires

pub returns-then-x-last : goal.returns-then-x-last
returns-then-x-last c = skim_rest c.loop-i.invariant (omega (arith, c.if-x-last.true))

pub returns-then-end-x : goal.returns-then-end-x
returns-then-end-x c =
    skim_untested c.loop-i.invariant c.loop-i-test.true c.if-x-last.false

pub returns-then-hubs-x : goal.returns-then-hubs-x
returns-then-hubs-x c =
    skim_stray c.loop-i.invariant c.loop-i-test.true c.if-x-last.false c.if-hubs-x.true

pub loop-i-preserved : goal.loop-i-preserved
loop-i-preserved c =
    skim_more c.loop-i.invariant c.loop-i-test.true c.if-x-last.false c.if-end-x.false c.if-hubs-x.false (rw c.slot-at.ensures at c.if-seen-at.false)

pub returns-then-seen-at : goal.returns-then-seen-at
returns-then-seen-at c =
    skim_untested c.loop-i.invariant c.loop-i-test.true c.if-x-last.false

pub returns : goal.returns
returns c = skim_end c.loop-i.invariant c.loop-i-test.false
