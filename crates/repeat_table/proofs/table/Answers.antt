-- `repeat_table::table` meets its contract: the parts of the table, one behind another.
use mathlib.Core.Path.{sym}
use Rattle.repeat_table.proofs.Listed.{table_parts}
use Rattle.repeat_table.proofs.table.Goals as goal

pub returns : goal.returns
returns c =
    rw (c.put_lengths-4.ensures, c.put_lengths-3.ensures, c.put_lengths-2.ensures, c.put_lengths.ensures, c.requires) (sym table_parts)
