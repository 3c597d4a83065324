-- `steps::gather` meets its contract: the first n of `live` are those of the edges passed that end in row `starts`.
use Rattle.steps.proofs.Gathering.{Gathering}
use Rattle.steps.proofs.gather.Given as goal

abbrev pub invariant-loop-x : goal.invariant-loop-x
invariant-loop-x l = Gathering l.edges l.w l.starts l.initial.live l.live l.x-index l.n
