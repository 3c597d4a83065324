-- `output::put_back` meets its contract. The invariant: the first i entries are put.
use mathlib.Core.Path.{◌≡◌}
use mathlib.Core.List.{map}
use lib.ListN.{take}
use Rattle.model.specs.Build.Renumber.{translate}
use Rattle.output.proofs.put_back.Given as goal

abbrev pub invariant-loop-i : goal.invariant-loop-i
invariant-loop-i l = take l.i l.to ≡ map (translate l.order) (take l.i l.staged)
