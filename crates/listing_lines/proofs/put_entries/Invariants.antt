-- `listing_lines::put_entries` meets its contract. The invariant: the lines of the entries so far are put.
use mathlib.Core.Path.{◌≡◌}
use mathlib.Core.List.{◌++◌}
use lib.ListN.{take}
use Rattle.model.specs.Computed.Lists.{spread}
use Rattle.printing.specs.Lines.{entry_line}
use Rattle.listing_lines.proofs.put_entries.Given as goal

abbrev pub invariant-loop-entry : goal.invariant-loop-entry
invariant-loop-entry g l = l.text ≡ l.initial.text ++ spread entry_line (take l.entry-index l.entries)
