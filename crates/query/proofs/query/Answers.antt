-- `query::query` meets its contract: a label with total 0 is a no; else the index is asked by a pattern that is written once, and any other is searched.
use mathlib.Core.Path.{◌≡◌, refl, sym, ◌∙◌}
use native.Mathlib.Omega.{arith}
use Rattle.std.proofs.Common.{rules, Err}
use Rattle.model.proofs.Patterns.{count_once}
use Rattle.calls.specs.Call.{lent}
use Rattle.calls.proofs.Query.{ask_leaves, within, query_refused, query_lacking, query_full}
use Rattle.query.proofs.Call.{is_asked}
use Rattle.query.proofs.query.Goals as goal

pub returns-in_err-check : goal.returns-in_err-check
returns-in_err-check c =
    let k : c.from_residual.result ≡ Err c.in_err-check.field-0.0 = search rules in
    rw k (query_refused _ _ _ _ _ c.in_err-check.field-0.0 (sym c.in_err-check.ensures))

pub is_lacking-requires : goal.is_lacking-requires
is_lacking-requires c = let a = ask_leaves _ _ _ _ (sym c.in_ok-check.ensures) in within a.bounds a.keyed

pub returns-then-is_lacking : goal.returns-then-is_lacking
returns-then-is_lacking c =
    rw (query_lacking _ _ _ _ _ (sym c.in_ok-check.ensures) (sym c.is_lacking.ensures ∙ c.if-is_lacking.true))
    (record { reply_is = refl; edges_after = refl; index_after = refl; work_after = refl; output_after = refl })

pub search-requires : goal.search-requires
search-requires c = sym c.in_ok-check.ensures

pub ask-requires : goal.ask-requires
ask-requires c = sym c.in_ok-check.ensures

pub returns : goal.returns
returns c =
    let m = lent c.args.edges.now c.args.index.now c.args.work.now in
    rw (query_full _ _ _ _ m (sym c.is_lacking.ensures ∙ c.if-is_lacking.false) ∙ is_asked _ _ _ _ m (sym c.in_ok-check.ensures) (count_once _ c.minimum_repeat.ensures.1 (omega arith)))
    (c.ask.ensures _ _)
