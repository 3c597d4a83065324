-- `query_checks::check_two` meets its contract: the first pattern's query is refused, or the second pattern is looked at.
use mathlib.Core.Path.{◌≡◌, sym, ◌∙◌}
use Rattle.std.proofs.Common.{rules, Err}
use Rattle.model.proofs.Replies.{number_some}
use Rattle.calls.proofs.Checks.{none, pass, stop}
use Rattle.calls.proofs.QueryTwo.{two_stop, two_pass}
use Rattle.query_checks.proofs.check_two.Goals as goal

pub returns-in_err-check : goal.returns-in_err-check
returns-in_err-check c =
    let k : c.from_residual.result ≡ Err c.in_err-check.field-0.0 = search rules in
    rw k (sym (two_stop _ _ _ _ _ (sym c.in_err-check.ensures) (number_some c.in_err-check.field-0.0)))

-- the first pattern's checks have passed from here on
pub returns-then-is_keyed : goal.returns-then-is_keyed
returns-then-is_keyed c = sym (two_pass _ _ _ _ _ (sym c.in_ok-check.ensures) (pass (sym c.is_keyed.ensures ∙ c.if-is_keyed.true) none))

pub returns : goal.returns
returns c = sym (two_pass _ _ _ _ _ (sym c.in_ok-check.ensures) (stop (sym c.is_keyed.ensures ∙ c.if-is_keyed.false)))
