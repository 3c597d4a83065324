-- `query_checks::are_once` meets its contract.
use mathlib.Core.Path.{sym, ◌∙◌}
use borrow.Author.Tests.{ne_eqb}
use Rattle.model.proofs.Patterns.{count_once, count_more}
use Rattle.query_checks.proofs.Both.{once_second, first_repeats}
use Rattle.query_checks.proofs.are_once.Goals as goal

pub returns-then-minimum_repeat-eq1 : goal.returns-then-minimum_repeat-eq1
returns-then-minimum_repeat-eq1 c =
    once_second _ _ (count_once _ c.minimum_repeat.ensures.1 c.if-minimum_repeat-eq1.true) c.minimum_repeat-then-minimum_repeat-eq1.ensures.1

pub returns-else-minimum_repeat-eq1 : goal.returns-else-minimum_repeat-eq1
returns-else-minimum_repeat-eq1 c =
    ne_eqb _ 1 c.if-minimum_repeat-eq1.false ∙ sym (first_repeats _ _ (count_more _ c.minimum_repeat.ensures.1 c.if-minimum_repeat-eq1.false))
