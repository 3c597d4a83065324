-- `answer::part` meets its contract.
use Rattle.answer.proofs.Parts.{part_between}
use Rattle.answer.proofs.part.Goals as goal

pub returns : goal.returns
returns c = part_between c.lower_bound.ensures c.lower_bound-2.ensures c.requires.0
