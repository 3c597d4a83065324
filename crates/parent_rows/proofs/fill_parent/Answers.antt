use mathlib.Core.Path.{◌≡◌, refl, sym, subst}
use Prim.Native.Nat.{◌+◌, ◌-◌, ◌≤◌, ◌<◌}
use native.Mathlib.Omega.{arith}
use lib.ListN.{length}
use Rattle.std.proofs.lemmas.Bool.{eqb-true, eqb-false}
use Rattle.rows.specs.Region.{saved_rows}
use Rattle.rows.specs.Rows.{KeepsRows}
use Rattle.parent_rows.proofs.Turning.{Turning, halves_keep, label_range, ends_fillable, no_label, turning_last, turning_prependable, turning_more, turning_all}
use Rattle.parent_rows.proofs.fill_parent.Goals as goal
use Rattle.parent_rows.proofs.fill_parent.Goals.{At-loop-i, In-loop-i, Else-is_empty}

last : (c : Else-is_empty) → length c.args.word.now - 1 < length c.args.word.now
last c = omega (arith, eqb-false _ _ (sym c.if-is_empty.ensures))

-- before the loop only one half changes
since : (c : At-loop-i) → KeepsRows c.args.w.now c.fill_ends.new.w (λ r. saved_rows ≤ r)
since c = halves_keep (omega (arith, c.half.ensures)) c.fill_ends.ensures.keeps

back : (c : In-loop-i) → (c.loop-i.i - 1) + 1 ≡ c.loop-i.i
back c = omega (arith, c.loop-i-test.true)

turning : (c : In-loop-i) → Turning c.args.edges.now c.args.word.now c.fill_ends.new.w c.loop-i.w ((c.loop-i.i - 1) + 1)
turning c = subst (Turning c.args.edges.now c.args.word.now c.fill_ends.new.w c.loop-i.w) (sym (back c)) c.loop-i.invariant

pub returns-then-is_empty : goal.returns-then-is_empty
returns-then-is_empty c = no_label c.args.word.now (eqb-true _ _ (sym c.if-is_empty.ensures)) c.requires.quiet c.fill_identity.ensures

pub labelled-ends-requires : goal.labelled-ends-requires
labelled-ends-requires c = (c.requires.grouped, label_range c.requires.word _ (last (goal.at.labelled-ends-requires c).Else-is_empty))

pub fill_ends-requires : goal.fill_ends-requires
fill_ends-requires c =
    let pre = c.requires in
    rw c.half.ensures (ends_fillable pre.grouped pre.word (last (goal.at.fill_ends-requires c).Else-is_empty) pre.quiet c.labelled-ends.ensures pre.sources.long)

pub loop-i-init : goal.loop-i-init
loop-i-init c =
    let pre = c.requires in
    let l = last (goal.at.loop-i-init c).Else-is_empty in
    turning_last pre.grouped pre.word l pre.quiet c.labelled-ends.ensures (omega arith) (rw c.half.ensures at c.fill_ends.ensures)

pub labelled-first-requires : goal.labelled-first-requires
labelled-first-requires c = (c.requires.grouped, label_range c.requires.word _ (omega (arith, c.loop-i.invariant.inside)))

pub labelled-behind-requires : goal.labelled-behind-requires
labelled-behind-requires c = (c.requires.grouped, label_range c.requires.word _ (omega (arith, c.loop-i.invariant.inside)))

pub prepend-requires : goal.prepend-requires
prepend-requires c =
    let pre = c.requires in
    rw c.half-in-loop-i.ensures
    (turning_prependable _ (turning (goal.at.prepend-requires c).In-loop-i) pre.grouped pre.word c.labelled-first.ensures c.labelled-behind.ensures
    refl pre.sources (since (goal.at.prepend-requires c).At-loop-i) (omega (arith, pre.room)))

pub loop-i-preserved : goal.loop-i-preserved
loop-i-preserved c =
    let pre = c.requires in
    turning_more _ (turning (goal.at.loop-i-preserved c).In-loop-i) pre.grouped pre.word c.labelled-first.ensures (rw c.half-in-loop-i.ensures at c.prepend.ensures)

pub returns : goal.returns
returns c =
    let e : c.loop-i.i ≡ 0 = omega arith in
    turning_all (since (goal.at.returns c).At-loop-i) (rw e at c.loop-i.invariant)
