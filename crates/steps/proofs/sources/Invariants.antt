-- `steps::sources` meets its contract: row r is where the edges passed start.
use lib.ListN.{take}
use Rattle.rows.specs.Rows.{Becomes}
use Rattle.steps.specs.Filling.{Starting}
use Rattle.steps.proofs.sources.Given as goal

abbrev pub invariant-loop-x : goal.invariant-loop-x
invariant-loop-x l = Becomes l.initial.w l.w l.r (Starting (take l.x-index l.edges))
