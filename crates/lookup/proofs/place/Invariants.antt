-- `lookup::place` meets its contract. The invariant: the digits so far, with the labels that are left behind them, are the ordinal. No label
-- lessens it, so every step stays below the size of the table.
use mathlib.Core.Path.{◌≡◌}
use lib.ListN.{drop}
use Rattle.model.specs.Computed.Table.{ordinal_from}
use Rattle.lookup.proofs.place.Given as goal

abbrev pub invariant-loop-i : goal.invariant-loop-i
invariant-loop-i l = ordinal_from l.digits (drop l.i l.pattern) ≡ ordinal_from 0 l.pattern
