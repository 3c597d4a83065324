use mathlib.Core.Bool.{not}
use mathlib.Core.Path.{◌≡◌, sym, ap, ◌∙◌}
use Prim.Native.Nat.{◌<◌}
use native.Mathlib.Omega.{arith}
use lib.ListN.{length, get_or}
use Rattle.model.specs.Limits.{most_vertices}
use Rattle.model.specs.declared.Edge.{Edge}
use Rattle.model.specs.Edges.{from_of}
use Rattle.model.proofs.Lists.{get_d_in}
use Rattle.rows.specs.Rows.{Domain}
use Rattle.staging.proofs.Adding.{stages_taken}
use Rattle.single_starts.proofs.Singles.{splitting_none, splitting_pass, splitting_goes_on, splitting_ends, splitting_both, splitting_take, splitting_over, splitting_all, domain_copied}
use Rattle.single_starts.proofs.stage_singles.Goals as goal
use Rattle.single_starts.proofs.stage_singles.Goals.{At-loop-x, After-from-s, then-bit-eq1+then-is_none+in_ok-n, else-bit-eq1, else-bit-eq1-via-then-bit-eq1+else-is_none, else-bit-eq1-via-else-bit-eq1}

-- the length is kept
len : (c : At-loop-x) → length c.loop-x.w ≡ length c.args.w.now
len c = c.loop-x.invariant.stages.keeps.len ∙ c.copy.ensures.keeps.len

domain : (c : At-loop-x) → Domain c.copy.new.w c.args.domain
domain c = let d = c.requires.domain in domain_copied d.most c.copy.ensures d

-- the edge at hand starts at a vertex
start : (c : After-from-s) → c.from-s.result.from ≡ from_of (get_or c.args.edges.now c.loop-x.x-index 0)
start c = ap (λ (e : Edge). e.from) c.from-s.ensures

small : (c : After-from-s) → c.from-s.result.from < most_vertices
small c = rw (start c) (c.requires.small _ (get_d_in c.args.edges.now c.loop-x.x-index c.loop-x-test.true))

pub loop-x-init : goal.loop-x-init
loop-x-init c =
    let pre = c.requires in
    let d = pre.domain in
    splitting_none (domain_copied d.most c.copy.ensures d) c.copy.ensures (omega (arith, c.copy.ensures.keeps.len, pre.taken))

pub bit-requires : goal.bit-requires
bit-requires c =
    let l = len (goal.at.bit-requires c).At-loop-x in
    (record { row = omega arith; long = omega (arith, c.requires.domain.long) }, small (goal.at.bit-requires c).After-from-s)

pub common-requires : goal.common-requires
common-requires c =
    let d = c.requires.domain in
    let l = len (goal.at.common-requires c).At-loop-x in
    let s = small (goal.at.common-requires c).After-from-s in
    (record { row = omega (arith, s); long = omega (arith, d.long) }, record { row = omega (arith, d.most); long = omega (arith, d.long) })

pub stage_steps-requires : goal.stage_steps-requires
stage_steps-requires c =
    record {
      vertex = small (goal.at.stage_steps-requires c).After-from-s;
      taken = stages_taken c.loop-x.invariant.stages;
    }

pub unmark-requires : goal.unmark-requires
unmark-requires c =
    let l = c.stage_steps.ensures.keeps.len ∙ len (goal.at.unmark-requires c).At-loop-x in
    (record { row = omega arith; long = omega (arith, c.requires.domain.long) }, small (goal.at.unmark-requires c).After-from-s)

pub returns-in_err-n : goal.returns-in_err-n
returns-in_err-n c =
    let pre = c.requires in
    let inv = c.loop-x.invariant in
    let d = domain (goal.at.returns-in_err-n c).At-loop-x in
    let s = small (goal.at.returns-in_err-n c).After-from-s in
    let end = splitting_ends d inv s _ c.common.ensures (c.is_none.ensures ∙ ap not c.if-is_none.true) in
    let over = rw c.in_err-n.was at c.stage_steps.ensures in
    rw c.from_residual.ensures
    (splitting_over pre.domain.most c.copy.ensures
    (splitting_both d inv s (sym c.bit.ensures ∙ omega (arith, c.if-bit-eq1.true)) end c.args.code.fits over))

pub loop-x-preserved : goal.loop-x-preserved
loop-x-preserved c =
    let d = domain (goal.at.loop-x-preserved c).At-loop-x in
    let is = start (goal.at.loop-x-preserved c).After-from-s in
    let s = small (goal.at.loop-x-preserved c).After-from-s in
    let inv = c.loop-x.invariant in
    let pre = c.requires in
    let b = c.bit.ensures in
    elim c.if-bit-eq1.branch [
      | then-bit-eq1+then-is_none+in_ok-n w ↦
          let end = splitting_ends d inv s _ w.common.ensures (w.is_none.ensures ∙ ap not w.if-is_none.true) in
          let fits = rw w.in_ok-n.was at w.stage_steps.ensures in
          rw
          (w.w-is, w.n-is)
          (splitting_take d inv s (sym b ∙ omega (arith, w.if-bit-eq1.true)) end c.args.code.fits pre.small c.loop-x-test.true is fits w.unmark.ensures)
      | else-bit-eq1 w ↦
          rw
          (w.w-is, w.n-is)
          (elim w.else-bit-eq1.branch [
            | else-bit-eq1-via-then-bit-eq1+else-is_none v ↦
                splitting_pass d inv (λ e _. splitting_goes_on d inv s _ v.common.ensures (v.is_none.ensures ∙ ap not v.if-is_none.false) (rw is e))
            | else-bit-eq1-via-else-bit-eq1 v ↦ splitting_pass d inv (λ _ o. v.if-bit-eq1.false (b ∙ rw is o))
          ])
    ]

pub returns : goal.returns
returns c =
    let pre = c.requires in
    splitting_all pre.domain.most c.copy.ensures pre c.loop-x-test.false c.loop-x.invariant
