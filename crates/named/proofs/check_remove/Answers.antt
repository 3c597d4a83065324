-- `named::check_remove` meets its contract: what the lookup of the named edge says.
use mathlib.Core.Path.{◌≡◌}
use Rattle.std.proofs.Common.{rules, Err}
use Rattle.named.proofs.Naming.{remove_stops, remove_absent, takes}
use Rattle.named.proofs.check_remove.Goals as goal

pub returns-in_err-standing : goal.returns-in_err-standing
returns-in_err-standing c =
    let k : c.from_residual.result ≡ Err c.in_err-standing.field-0.0 = search rules in
    rw k (remove_stops _ _ _ _ _ _ c.in_err-standing.ensures)

pub returns-in_default : goal.returns-in_default
returns-in_default c = remove_absent (rw c.in_default.is at c.in_ok-standing.ensures)

pub returns : goal.returns
returns c = takes (rw c.in-Ok.is at c.in_ok-standing.ensures)
