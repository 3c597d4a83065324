-- `query_checks::is_either_lacking` meets its contract.
use mathlib.Core.Path.{sym, ◌∙◌}
use Rattle.query_checks.proofs.Both.{lacks_first, lacks_second}
use Rattle.query_checks.proofs.is_either_lacking.Goals as goal

pub returns-then-is_lacking : goal.returns-then-is_lacking
returns-then-is_lacking c = c.if-is_lacking.true ∙ sym (lacks_first _ _ _ (sym c.is_lacking.ensures ∙ c.if-is_lacking.true))

pub returns-else-is_lacking : goal.returns-else-is_lacking
returns-else-is_lacking c = c.is_lacking-else-is_lacking.ensures ∙ sym (lacks_second _ _ _ (sym c.is_lacking.ensures ∙ c.if-is_lacking.false))
