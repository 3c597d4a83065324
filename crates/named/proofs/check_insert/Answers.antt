-- `named::check_insert` meets its contract: what the lookup of the named edge says, and then whether a slot is left.
use mathlib.Core.Path.{◌≡◌}
use Rattle.std.proofs.Common.{rules, Err}
use Rattle.named.proofs.Naming.{insert_stops, insert_present, insert_full, places}
use Rattle.named.proofs.check_insert.Goals as goal

pub returns-in_err-standing : goal.returns-in_err-standing
returns-in_err-standing c =
    let k : c.from_residual.result ≡ Err c.in_err-standing.field-0.0 = search rules in
    rw k (insert_stops _ _ _ _ _ _ c.in_err-standing.ensures)

pub returns-in_default : goal.returns-in_default
returns-in_default c = insert_present (rw c.in_default.is at c.in_ok-standing.ensures)

pub returns-then-edges-standing : goal.returns-then-edges-standing
returns-then-edges-standing c = insert_full (rw c.in-Err.is at c.in_ok-standing.ensures) c.if-edges-standing.true

pub returns : goal.returns
returns c = places (rw c.in-Err.is at c.in_ok-standing.ensures) c.if-edges-standing.false
