-- `single_starts::stage_singles` meets its contract: the entries of the starts that have left row `rest` are staged, those of the first edges
-- whose walks are one step among them.
use Rattle.single_starts.proofs.Singles.{Splitting}
use Rattle.single_starts.proofs.stage_singles.Given as goal

abbrev pub invariant-loop-x : goal.invariant-loop-x
invariant-loop-x l = Splitting l.edges l.initial.w l.domain l.code.number l.cnt l.w l.n l.x-index
