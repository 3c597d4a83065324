-- `steps::fill` meets its contract: the rows from `to` on are what the edges passed lead into.
use lib.ListN.{take}
use Rattle.steps.specs.Filling.{FillsRows, LeadsInto}
use Rattle.steps.proofs.fill.Given as goal

abbrev pub invariant-loop-x : goal.invariant-loop-x
invariant-loop-x l = FillsRows l.to (LeadsInto (take l.x-index l.edges) l.initial.w l.from) l.initial.w l.w
