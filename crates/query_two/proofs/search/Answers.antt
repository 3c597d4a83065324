-- `query_two::search` meets its contract: 12, 3, 4, or what both patterns tell.
use mathlib.Core.Path.{sym, ◌∙◌}
use borrow.Author.Tests.{lt-leb}
use lib.Seq.{length-take-le}
use Rattle.model.specs.declared.Refusal.TheVariants.{EdgeMemory, WorkMemory, IndexMemory}
use Rattle.edges.proofs.Memory.{scans, scans_none as no-edge-memory}
use Rattle.calls.proofs.Checks.{pass, stop}
use Rattle.scan.proofs.Scanning.{scans_none, entered}
use Rattle.query_two.proofs.Call.{refused_two, first_puttable, second_puttable, full_repeating}
use Rattle.query_two.proofs.search.Goals as goal

pub returns-in_default : goal.returns-in_default
returns-in_default c =
    refused_two _ _ _ _ _ c.requires.passed IndexMemory
    (stop (scans_none _ _ _ (sym c.in_default.ensures)))

-- 12 has passed from here on
pub returns-in_default-scan : goal.returns-in_default-scan
returns-in_default-scan c =
    refused_two _ _ _ _ _ c.requires.passed EdgeMemory
    (pass (entered _ _ _ (sym c.in-Some.ensures)).memory (stop (rw c.requires.one_repeats (no-edge-memory _ _ (sym c.in_default-scan.ensures)))))

-- and so has 3
pub returns-then-work-lt-LEAST_WORK : goal.returns-then-work-lt-LEAST_WORK
returns-then-work-lt-LEAST_WORK c =
    refused_two _ _ _ _ _ c.requires.passed WorkMemory
    (pass (entered _ _ _ (sym c.in-Some.ensures)).memory (pass (rw c.requires.one_repeats (scans _ _ (sym c.in-Some-scan.ensures)).memory) (stop (rw c.requires.one_repeats (lt-leb _ _ c.if-work-lt-LEAST_WORK.true)))))

pub slice_bounds-meet-end : goal.slice_bounds-meet-end
slice_bounds-meet-end c =
    sym (length-take-le _ c.args.edges.now (scans _ _ (sym c.in-Some-scan.ensures)).within)

pub slice_bounds-meet-end-2 : goal.slice_bounds-meet-end-2
slice_bounds-meet-end-2 c =
    sym (length-take-le _ c.args.index.now (entered _ _ _ (sym c.in-Some.ensures)).within)

pub meet-requires : goal.meet-requires
meet-requires c =
    let stand = entered _ _ _ (sym c.in-Some.ensures) in
    let edges = scans _ _ (sym c.in-Some-scan.ensures) in
    record {
      puttable = (first_puttable _ _ _ _ _ c.requires.passed stand edges, second_puttable _ _ _ _ _ c.requires.passed stand edges);
      least_work_in_bounds = c.if-work-lt-LEAST_WORK.false;
    }

pub returns : goal.returns
returns c =
    full_repeating _ _ _ _ _ c.requires.passed (entered _ _ _ (sym c.in-Some.ensures)) (scans _ _ (sym c.in-Some-scan.ensures)) c.requires.one_repeats c.if-work-lt-LEAST_WORK.false c.meet.ensures
