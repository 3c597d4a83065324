use native.Mathlib.Omega.{arith}
use Prim.Native.Nat.{◌+◌}
use Rattle.staging.specs.Stage.{Transits}
use Rattle.closed_starts.proofs.Striking.{picked_steps, transits_as, Struck, clear_less, clear_late, start_stages, taking_none, taking_full, taking_more, taking_all}
use Rattle.closed_starts.proofs.stage_vertex.Goals as goal
use Rattle.closed_starts.proofs.stage_vertex.Goals.{After-copy, then-u-s, else-u-s}

transits : (c : After-copy) → Transits c.copy.new.w
transits c = transits_as (picked_steps c.copy.ensures.keeps) c.requires.transits

pub loop-u-init : goal.loop-u-init
loop-u-init c = taking_none c.requires.vertex (omega (arith, c.copy.ensures.keeps.len, c.requires.taken)) c.copy.ensures

pub returns-in_err-n : goal.returns-in_err-n
returns-in_err-n c =
    let t = transits (goal.at.returns-in_err-n c).After-copy in
    let full = rw c.in_err-n.was at c.put.ensures in
    rw c.from_residual.ensures
    (start_stages c.copy.ensures.keeps
    (taking_full c.loop-u.invariant t c.args.code.fits c.in-Some.ensures c.joined.ensures full))

pub loop-u-preserved : goal.loop-u-preserved
loop-u-preserved c =
    let inv = c.loop-u.invariant in
    let small = c.args.code.fits in
    let t = transits (goal.at.loop-u-preserved c).After-copy in
    let y = c.in-Some.ensures in
    let e = c.joined.ensures in
    let put = rw c.in_ok-n.was at c.put.ensures in
    let cleared : Struck c.copy.new.w c.args.s c.put.new.w c.if-u-s.w (c.in-Some.u + 1) =
    elim c.if-u-s.branch [
      | then-u-s x ↦ rw x.w-is (clear_less inv t small y e put (omega (arith, x.if-u-s.true)) x.subtract.ensures)
      | else-u-s x ↦ rw x.w-is (clear_late inv t small y e put (omega (arith, x.if-u-s.false)))
    ] in
    taking_more inv t small y e put cleared

pub returns : goal.returns
returns c = start_stages c.copy.ensures.keeps (taking_all c.loop-u.invariant (rw c.in_default.is at c.next.ensures))
