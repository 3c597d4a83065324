-- `query_two::ask` meets its contract: 12, or the lowest vertex of both tables, whatever edge and work memory are lent.
use Rattle.std.proofs.Common.{rules}
use mathlib.Core.Path.{sym, ◌∙◌}
use native.Mathlib.Omega.{arith}
use lib.Seq.{length-take-le}
use Rattle.model.specs.declared.Refusal.TheVariants.{IndexMemory}
use Rattle.calls.proofs.Checks.{stop}
use Rattle.calls.proofs.QueryTwo.{two_leaves}
use Rattle.scan.proofs.Scanning.{scans_none, entered}
use Rattle.query_two.proofs.Call.{refused_two, answerable, full_once}
use Rattle.query_two.proofs.ask.Goals as goal

pub returns-in_default : goal.returns-in_default
returns-in_default c edges work =
    refused_two _ _ _ _ _ c.requires.passed IndexMemory
    (stop (scans_none _ _ _ (sym c.in_default.ensures)))

-- 12 has passed from here on
pub slice_bounds-answers-end : goal.slice_bounds-answers-end
slice_bounds-answers-end c = sym (length-take-le _ c.args.index.now (entered _ _ _ (sym c.in-Some.ensures)).within)

pub answers-out-requires : goal.answers-out-requires
answers-out-requires c =
    let passed = c.requires.passed in
    let given = two_leaves _ _ _ _ _ passed in
    answerable _ _ _ _ _ passed (entered _ _ _ (sym c.in-Some.ensures)) given.first_keyed (omega (arith, given))

pub slice_bounds-answers-end-2 : goal.slice_bounds-answers-end-2
slice_bounds-answers-end-2 c = sym (length-take-le _ c.args.index.now (entered _ _ _ (sym c.in-Some.ensures)).within)

pub answers-home-requires : goal.answers-home-requires
answers-home-requires c =
    let given = two_leaves _ _ _ _ _ c.requires.passed in
    answerable _ _ _ _ _ c.requires.passed (entered _ _ _ (sym c.in-Some.ensures)) given.second_keyed (omega (arith, given))

pub lowest-requires : goal.lowest-requires
lowest-requires c = (two_leaves _ _ _ _ _ c.requires.passed).bounds.vertices_most

pub returns : goal.returns
returns c edges work =
    full_once _ _ _ _ _ c.requires.passed (entered _ _ _ (sym c.in-Some.ensures)) c.requires.both_once c.answers-out.ensures c.answers-home.ensures c.lowest.ensures edges work
