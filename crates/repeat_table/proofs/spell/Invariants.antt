-- `repeat_table::spell` meets its contract. The invariant: the labels from i on are spelled (`SpelledFrom`).
use lib.ListN.{length}
use Rattle.repeat_table.proofs.Spelling.{SpelledFrom}
use Rattle.repeat_table.proofs.spell.Given as goal

abbrev pub invariant-loop-i : goal.invariant-loop-i
invariant-loop-i l = SpelledFrom (length l.initial.word) l.number l.word l.i l.rest
