-- `lookup::length_at` meets its contract: the test carried to the entry.
use Rattle.lookup.proofs.Table.{entry_is}
use Rattle.lookup.proofs.length_at.Goals as goal

pub returns : goal.returns
returns c = entry_is _ c.requires.0 _ c.requires.1
