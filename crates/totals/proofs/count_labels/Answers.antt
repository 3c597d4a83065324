use mathlib.Core.Path.{◌≡◌, sym, ◌∙◌}
use mathlib.Core.Logic.{◌≢◌}
use Prim.Native.Nat.{ℕ, ◌/◌, ◌+◌, ◌*◌}
use native.Mathlib.Omega.{arith}
use native.Mathlib.Nat.{add-zero}
use lib.ListN.{get_or, length}
use mathlib.Core.List.{[]}
use Rattle.totals.proofs.Totalling.{Totalled, totalled_zero, totalled_end, first_small, second_small, pair_at, last_some, last_none, first_more, second_more, raise}
use Rattle.model.specs.Edges.{label_of}
use Rattle.totals.proofs.count_labels.Goals as goal
use Rattle.totals.proofs.count_labels.Goals.{Then-x-eq0, Else-x-eq0, After-label_of, In-loop-x}

first : (c : In-loop-x) → get_or (get_or c.as_chunks.result.0.now c.loop-x.x-index []) 0 0 ≡ get_or c.args.edges.now (2 * c.loop-x.x-index) 0
first c = rw add-zero at (pair_at c.args.edges.now c.as_chunks.ensures.front c.loop-x.x-index 0 (omega arith) (omega arith))

second : (c : In-loop-x) → get_or (get_or c.as_chunks.result.0.now c.loop-x.x-index []) 1 0 ≡ get_or c.args.edges.now (2 * c.loop-x.x-index + 1) 0
second c = pair_at c.args.edges.now c.as_chunks.ensures.front c.loop-x.x-index 1 (omega arith) (omega arith)

-- the first of the pair is counted
one : (c : In-loop-x) (k : ℕ) → k ≡ label_of (get_or (get_or c.as_chunks.result.0.now c.loop-x.x-index []) 0 0) → get_or (get_or c.as_chunks.result.0.now c.loop-x.x-index []) 0 0 ≢ 0 → Totalled c.args.edges.now (raise c.loop-x.counts k) (2 * c.loop-x.x-index + 1)
one c k e n = rw e (first_more c.args.edges.now _ _ c.loop-x.invariant (omega arith) (first c) n)

pub loop-x-preserved : goal.loop-x-preserved
loop-x-preserved c =
    let at = (goal.at.loop-x-preserved c).In-loop-x in
    let next : 2 * (c.loop-x.x-index + 1) ≡ 2 * c.loop-x.x-index + 1 + 1 = omega arith in
    rw (next, c.label_of-in-loop-x.ensures) (second_more c.args.edges.now _ _ (one at _ c.label_of.ensures (λ e. omega arith)) (omega arith) (second at) (λ e. omega arith))

pub overflow_add-counts : goal.overflow_add-counts
overflow_add-counts c = rw c.label_of.ensures (let h = first_small c.loop-x.invariant c.requires (get_or (get_or c.as_chunks.result.0.now c.loop-x.x-index []) 0 0) in omega arith)

pub overflow_add-counts-in-loop-x-2 : goal.overflow_add-counts-in-loop-x-2
overflow_add-counts-in-loop-x-2 c =
    let at = (goal.at.overflow_add-counts-in-loop-x-2 c).In-loop-x in
    let h = second_small (one at _ c.label_of.ensures (λ e. omega arith)) c.requires (get_or (get_or c.as_chunks.result.0.now c.loop-x.x-index []) 1 0) in
    rw c.label_of-in-loop-x.ensures (omega arith)

pub returns-then-x-eq0 : goal.returns-then-x-eq0
returns-then-x-eq0 c = totalled_zero c.loop-x.invariant (omega arith) (let e = first (goal.at.returns-then-x-eq0 c).In-loop-x in omega arith)

pub returns-then-y-eq0 : goal.returns-then-y-eq0
returns-then-y-eq0 c =
    let at = (goal.at.returns-then-y-eq0 c).In-loop-x in
    totalled_zero (one at _ c.label_of.ensures (λ e. omega arith)) (omega arith) (let e = second at in omega arith)

-- ---- the last edge, if their number is odd

pub overflow_add-counts-then-x-ne0 : goal.overflow_add-counts-then-x-ne0
overflow_add-counts-then-x-ne0 c = rw c.label_of-then-x-ne0.ensures (let h = first_small c.loop-x.invariant c.requires c.in-Some.field-0.now in omega arith)

pub returns-then-x-ne0 : goal.returns-then-x-ne0
returns-then-x-ne0 c =
    let (h, e) = last_some c.args.edges.now c.as_chunks.ensures.back (sym c.in-Some.ensures.value) in
    let i : length c.args.edges.now / 2 ≡ c.loop-x.x-index = omega arith in
    rw c.label_of-then-x-ne0.ensures (totalled_end (first_more c.args.edges.now _ _ c.loop-x.invariant (rw i at h) (rw i at e) c.if-x-ne0.true) (omega arith))

pub returns-else-x-ne0 : goal.returns-else-x-ne0
returns-else-x-ne0 c =
    let (h, e) = last_some c.args.edges.now c.as_chunks.ensures.back (sym c.in-Some.ensures.value) in
    let i : length c.args.edges.now / 2 ≡ c.loop-x.x-index = omega arith in
    totalled_zero c.loop-x.invariant (rw i at h) (sym (rw i at e) ∙ c.if-x-ne0.false)

pub returns-in_default : goal.returns-in_default
returns-in_default c =
    let h = last_none c.args.edges.now c.as_chunks.ensures.back (sym c.in_default.ensures.value) in
    totalled_end c.loop-x.invariant (omega arith)
