-- `query_checks::check_named` meets its contract: each return is the first check that does not pass, or both have passed.
use mathlib.Core.Path.{sym}
use Rattle.calls.proofs.Checks.{none, pass, stop, first_is}
use Rattle.query_checks.specs.SearchChecks.{named_refusal}
use Rattle.query_checks.proofs.check_named.Goals as goal

pub returns-then-not-are_vertices : goal.returns-then-not-are_vertices
unfolding named_refusal
returns-then-not-are_vertices c = sym (first_is (stop (sym c.if-not-are_vertices.ensures)))

pub returns-then-not-is_keyed : goal.returns-then-not-is_keyed
unfolding named_refusal
returns-then-not-is_keyed c = sym (first_is (pass (sym c.if-not-are_vertices.ensures) (stop (sym c.if-not-is_keyed.ensures))))

pub returns : goal.returns
unfolding named_refusal
returns c = sym (first_is (pass (sym c.if-not-are_vertices.ensures) (pass (sym c.if-not-is_keyed.ensures) none)))
