-- `rows::clear` meets its contract.
use Rattle.rows.proofs.Writes.{clear_is}
use Rattle.rows.proofs.clear.Goals as goal

pub returns : goal.returns
returns c = clear_is c.store.ensures
