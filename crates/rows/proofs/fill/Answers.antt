-- `rows::fill` meets its contract.
use Rattle.rows.proofs.Writes.{fill_is}
use Rattle.rows.proofs.fill.Goals as goal

pub returns : goal.returns
returns c = fill_is c.store.ensures
