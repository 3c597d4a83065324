-- `query::search` meets its contract: 12, 3, 4, or a search over the standing edges, by the pattern as keyed.
use mathlib.Core.Path.{sym}
use borrow.Author.Tests.{lt-leb}
use lib.Seq.{length-take-le}
use Rattle.model.specs.declared.Refusal.TheVariants.{EdgeMemory, WorkMemory, IndexMemory}
use Rattle.edges.proofs.Memory.{scans as edge-scans, scans_none as no-edge-memory}
use Rattle.calls.proofs.Checks.{pass, stop}
use Rattle.calls.proofs.Calls.{meets_as}
use Rattle.scan.proofs.Scanning.{scans, scans_none}
use Rattle.query.proofs.Call.{answered_is, searchable, searched_refused, searched}
use Rattle.query.proofs.search.Goals as goal

pub returns-in_default : goal.returns-in_default
returns-in_default c = searched_refused _ _ _ _ _ _ _ IndexMemory (stop (scans_none _ _ _ (sym c.in_default.ensures)))

-- 12 has passed from here on
pub returns-in_default-scan : goal.returns-in_default-scan
returns-in_default-scan c =
    searched_refused _ _ _ _ _ _ _ EdgeMemory (pass (scans _ _ _ (sym c.in-Some.ensures)).0 (stop (no-edge-memory _ _ (sym c.in_default-scan.ensures))))

-- and so has 3
pub returns-then-work-lt-LEAST_WORK : goal.returns-then-work-lt-LEAST_WORK
returns-then-work-lt-LEAST_WORK c =
    searched_refused _ _ _ _ _ _ _ WorkMemory
    (pass (scans _ _ _ (sym c.in-Some.ensures)).0 (pass (edge-scans _ _ (sym c.in-Some-scan.ensures)).memory (stop (lt-leb _ _ c.if-work-lt-LEAST_WORK.true))))

pub slice_bounds-is_run-end : goal.slice_bounds-is_run-end
slice_bounds-is_run-end c = sym (length-take-le _ c.args.edges.now (edge-scans _ _ (sym c.in-Some-scan.ensures)).within)

pub is_run-requires : goal.is_run-requires
is_run-requires c = (searchable _ _ _ _ c.requires (edge-scans _ _ (sym c.in-Some-scan.ensures)), c.if-work-lt-LEAST_WORK.false)

pub returns : goal.returns
returns c =
    meets_as (sym (answered_is c.is_run.result))
    (searched _ _ _ _ _ _ _ (scans _ _ _ (sym c.in-Some.ensures)).0 (edge-scans _ _ (sym c.in-Some-scan.ensures)) c.if-work-lt-LEAST_WORK.false c.is_run.ensures)
