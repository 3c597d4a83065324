-- `rlc_c::rlc_minimum_repeat_computed` meets its contract.
use mathlib.Core.Path.{refl}
use native.Mathlib.Omega.{arith}
use Rattle.model.proofs.Patterns.{folded_short, folds}
use Rattle.rlc_c.proofs.rlc_minimum_repeat_computed.Goals as goal

pub overflow_cast-result : goal.overflow_cast-result
overflow_cast-result c = omega (arith, c.minimum_repeat_computed.ensures.is, folded_short c.args.pattern.now)

pub returns : goal.returns
returns c = folds (c.minimum_repeat_computed.ensures.is, refl)
