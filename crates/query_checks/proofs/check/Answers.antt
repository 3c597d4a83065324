-- `query_checks::check` meets its contract: the record's checks, and then those of what is named.
use mathlib.Core.Path.{◌≡◌, sym}
use Rattle.std.proofs.Common.{rules, Err}
use Rattle.model.proofs.Replies.{number_some}
use Rattle.calls.specs.Query.{ask_refusal}
use Rattle.calls.proofs.Checks.{first_is, header_stop, header_pass}
use Rattle.query_checks.proofs.Named.{named_first}
use Rattle.query_checks.proofs.check.Goals as goal

pub returns-in_err-check_size : goal.returns-in_err-check_size
unfolding ask_refusal
returns-in_err-check_size c =
    let k : c.from_residual.result ≡ Err c.in_err-check_size.field-0.0 = search rules in
    rw k (sym (first_is (header_stop _ _ (sym c.in_err-check_size.ensures) (number_some c.in_err-check_size.field-0.0))))

pub returns : goal.returns
unfolding ask_refusal
returns c = sym (first_is (header_pass _ _ (sym c.in_ok-check_size.ensures) (named_first _ _ _ _ (sym c.check_named.ensures))))
