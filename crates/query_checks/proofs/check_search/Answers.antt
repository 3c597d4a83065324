-- `query_checks::check_search` meets its contract: each return is the first check that does not pass, or all have passed.
use mathlib.Core.Path.{◌≡◌, sym}
use Rattle.std.proofs.Common.{rules, Err}
use borrow.Author.Tests.{le-leb, lt-leb}
use Rattle.model.proofs.Tests.{test_yields}
use Rattle.model.proofs.Patterns.{test_keyed}
use Rattle.calls.specs.Search.{search_refusal}
use Rattle.calls.proofs.Checks.{pass, stop, test_ends}
use Rattle.checks.proofs.LayoutChecks.{layout_stop, layout_pass}
use Rattle.query_checks.proofs.Named.{named_first, named_passes}
use Rattle.query_checks.proofs.check_search.Goals as goal

pub returns-in_err-n : goal.returns-in_err-n
unfolding search_refusal
returns-in_err-n c =
    let k : c.from_residual.result ≡ Err c.in_err-n.field-0.0 = search rules in
    rw k (layout_stop _ _ _ _ c.in_err-n.field-0.0 c.in_err-n.ensures)

-- the checks 1 2 3 have passed from here on
pub returns-then-work-lt-LEAST_WORK : goal.returns-then-work-lt-LEAST_WORK
unfolding search_refusal
returns-then-work-lt-LEAST_WORK c = layout_pass c.in_ok-n.ensures (stop (lt-leb _ _ c.if-work-lt-LEAST_WORK.true))

pub returns-in_err-check_named : goal.returns-in_err-check_named
unfolding search_refusal
returns-in_err-check_named c =
    let k : c.from_residual-in_err-check_named.result ≡ Err c.in_err-check_named.field-0.0 = search rules in
    rw k
    (layout_pass c.in_ok-n.ensures (pass (le-leb _ _ c.if-work-lt-LEAST_WORK.false) (named_first _ _ _ _ (sym c.in_err-check_named.ensures))))

pub returns : goal.returns
unfolding search_refusal
returns c =
    let named = named_passes _ _ _ _ (sym c.in_ok-check_named.ensures) in
    let (a, b) = test_yields (test_ends c.args.size.vertices c.args.start c.args.destination) named.0 in
    record {
      is = layout_pass c.in_ok-n.ensures (pass (le-leb _ _ c.if-work-lt-LEAST_WORK.false) (named_first _ _ _ _ (sym c.in_ok-check_named.ensures)));
      layout = c.in_ok-n.ensures;
      room = c.if-work-lt-LEAST_WORK.false;
      start_vertex = a;
      destination_vertex = b;
      keyed = test_yields (test_keyed _ _) named.1;
    }
