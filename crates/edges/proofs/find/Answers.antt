use Rattle.edges.proofs.BinarySearch.{binary_finds}
use Rattle.edges.proofs.find.Goals as goal

pub returns : goal.returns
returns c = binary_finds _ _ c.requires _ c.binary_search.ensures.position
