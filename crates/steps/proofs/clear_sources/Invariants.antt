-- `steps::clear_sources` meets its contract: only rows of vertices where an edge that is not passed starts have any vertex.
use Rattle.steps.proofs.Filling.{Emptying}
use Rattle.steps.proofs.clear_sources.Given as goal

abbrev pub invariant-loop-x : goal.invariant-loop-x
invariant-loop-x l = Emptying l.edges l.initial.w l.base l.w l.x-index
