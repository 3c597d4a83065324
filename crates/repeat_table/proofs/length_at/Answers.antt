-- `repeat_table::length_at` meets its contract: what is folded is the word at that number.
use mathlib.Core.Path.{◌∙◌}
use native.Mathlib.Omega.{arith}
use lib.ListN.{length-replicate}
use Rattle.model.proofs.Patterns.{folded_short}
use Rattle.repeat_table.proofs.Listed.{folded_at}
use Rattle.repeat_table.proofs.length_at.Goals as goal

pub overflow_cast-result : goal.overflow_cast-result
overflow_cast-result g c = omega (arith, c.minimum_repeat.ensures.0, folded_short c.spell.new.word)

pub returns : goal.returns
returns g c =
    let (range, inside) = c.requires in
    c.minimum_repeat.ensures.0 ∙ folded_at _ _ _ range.0 range.1 inside (simp (c.spell.ensures, length-replicate))
