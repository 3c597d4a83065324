-- `rlc_c::rlc_times_written` meets its contract.
use mathlib.Core.Path.{refl}
use native.Mathlib.Omega.{arith}
use Rattle.model.proofs.Patterns.{folded_short, written_short, folds}
use Rattle.rlc_c.proofs.rlc_times_written.Goals as goal

pub overflow_cast-result : goal.overflow_cast-result
overflow_cast-result c =
    let folded = c.minimum_repeat_computed.ensures in
    let pattern = c.args.pattern.now in
    omega (arith, folded.is, folded.often, folded_short pattern, written_short pattern)

pub returns : goal.returns
returns c = folds (refl, c.minimum_repeat_computed.ensures.often)
