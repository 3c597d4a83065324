-- `lookup::start_of` meets its contract.
use Rattle.lookup.proofs.Table.{start_is}
use Rattle.lookup.proofs.start_of.Goals as goal

pub returns : goal.returns
returns c = let (right, range) = c.requires in start_is _ right _ range.0 range.1
