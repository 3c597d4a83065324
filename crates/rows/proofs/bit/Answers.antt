-- `rows::bit` meets its contract.
use Rattle.rows.specs.Rows.{cell}
use Rattle.rows.proofs.bit.Goals as goal

pub returns : goal.returns
unfolding cell
returns c = rw c.spot.ensures
