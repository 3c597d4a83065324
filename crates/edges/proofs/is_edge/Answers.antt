use Rattle.std.proofs.lemmas.Grind.{common_steps}
use native.Mathlib.Omega.{arith}
use Rattle.model.specs.Computed.Edges.{edge?}
use Rattle.edges.proofs.is_edge.Goals as goal

pub returns-then-edge-le-MOST_LABEL : goal.returns-then-edge-le-MOST_LABEL
unfolding edge?
returns-then-edge-le-MOST_LABEL c = grind (arith, common_steps)

pub returns-else-edge-le-MOST_LABEL : goal.returns-else-edge-le-MOST_LABEL
unfolding edge?
returns-else-edge-le-MOST_LABEL c = grind (arith, common_steps)
