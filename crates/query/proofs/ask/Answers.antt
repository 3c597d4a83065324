-- `query::ask` meets its contract: 12, or the query put to the entries that stand, whatever edge and work memory are lent.
use mathlib.Core.Path.{sym}
use lib.Seq.{length-take-le}
use Rattle.calls.proofs.Calls.{meets_as}
use Rattle.scan.proofs.Scanning.{scans_none}
use Rattle.query.proofs.Call.{answered_is, asked_refused, part_index, answerable, asked}
use Rattle.query.proofs.ask.Goals as goal

pub returns-in_default : goal.returns-in_default
returns-in_default c = asked_refused _ _ _ _ _ c.requires (scans_none _ _ _ (sym c.in_default.ensures))

pub slice_bounds-answer-end : goal.slice_bounds-answer-end
slice_bounds-answer-end c =
    sym (length-take-le _ c.args.index.now (part_index _ _ _ _ _ c.requires _ (sym c.in-Some.ensures)))

pub answer-requires : goal.answer-requires
answer-requires c = answerable _ _ _ _ _ c.requires _ (sym c.in-Some.ensures)

pub returns : goal.returns
returns c edges work =
    meets_as (sym (answered_is c.answer.result)) (asked _ _ _ _ _ c.requires _ (sym c.in-Some.ensures) _ c.answer.ensures edges work)
