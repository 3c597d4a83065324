-- `suffixes::is_own` meets its contract: the minimum repeat is the pattern if it is as long.
use Rattle.suffixes.proofs.Own.{own_length}
use Rattle.suffixes.proofs.is_own.Goals as goal

pub returns : goal.returns
returns c = own_length _ _ c.requires c.minimum_repeat.ensures.0
