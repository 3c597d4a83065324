-- `rows::unmark` meets its contract.
use Rattle.rows.proofs.Writes.{unmark_is}
use Rattle.rows.proofs.unmark.Goals as goal

pub returns : goal.returns
returns c = rw c.spot.ensures (unmark_is c.requires.0 c.requires.1)
