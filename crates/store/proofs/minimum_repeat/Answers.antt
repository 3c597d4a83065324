-- `store::minimum_repeat` meets its contract: the table gives the length, and a pattern begins with its minimum repeat.
use Rattle.model.proofs.Patterns.{folds}
use Rattle.store.proofs.minimum_repeat.Goals as goal

pub returns : goal.returns
returns c = folds c.minimum_repeat.ensures
