-- `repeat_table::put_lengths` meets its contract. The invariant: the lines of the lengths so far are put.
use mathlib.Core.Path.{◌≡◌}
use mathlib.Core.List.{◌++◌}
use lib.ListN.{take}
use Rattle.model.specs.Computed.Lists.{spread}
use Rattle.printing.specs.Lines.{number_line}
use Rattle.repeat_table.specs.Lengths.{lengths}
use Rattle.repeat_table.proofs.put_lengths.Given as goal

abbrev pub invariant-loop-number : goal.invariant-loop-number
invariant-loop-number g l = l.text ≡ l.initial.text ++ spread number_line (take l.number (lengths g.row.N))
