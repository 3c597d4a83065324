-- `steps::fill_ends` meets its contract: the rows from `to` on are where the edges passed lead.
use lib.ListN.{take}
use Rattle.steps.specs.Filling.{FillsRows, LeadsTo}
use Rattle.steps.proofs.fill_ends.Given as goal

abbrev pub invariant-loop-x : goal.invariant-loop-x
invariant-loop-x l = FillsRows l.to (LeadsTo (take l.x-index l.edges)) l.initial.w l.w
