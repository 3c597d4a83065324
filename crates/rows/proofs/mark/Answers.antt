-- `rows::mark` meets its contract.
use Rattle.rows.proofs.Writes.{mark_is}
use Rattle.rows.proofs.mark.Goals as goal

pub returns : goal.returns
returns c = rw c.spot.ensures (mark_is c.requires.0 c.requires.1)
