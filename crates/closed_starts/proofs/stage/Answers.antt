use native.Mathlib.Omega.{arith}
use Rattle.staging.proofs.Adding.{stages_taken}
use Rattle.closed_starts.proofs.Striking.{unpicked_steps, transits_as}
use Rattle.closed_starts.proofs.Passing.{through_all, through_over, through_more}
use Rattle.closed_starts.proofs.stage.Goals as goal

pub stage_vertex-requires : goal.stage_vertex-requires
stage_vertex-requires c =
    let pre = c.requires in
    let stages = c.loop-s.invariant.stages in
    record {
      vertex = c.in-Some.ensures.high;
      transits = transits_as (unpicked_steps stages.keeps) pre.transits;
      taken = stages_taken stages;
    }

pub returns-in_err-n : goal.returns-in_err-n
returns-in_err-n c =
    let over = rw c.in_err-n.was at c.stage_vertex.ensures in
    rw c.from_residual.ensures (through_over (through_more c.loop-s.invariant c.args.code.fits c.in-Some.ensures over))

pub loop-s-preserved : goal.loop-s-preserved
loop-s-preserved c =
    let fits = rw c.in_ok-n.was at c.stage_vertex.ensures in
    record {
      high = omega (arith, c.in-Some.ensures.high);
      stages = through_more c.loop-s.invariant c.args.code.fits c.in-Some.ensures fits;
    }

pub returns : goal.returns
returns c = through_all c.loop-s.invariant (rw c.in_default.is at c.next.ensures)
