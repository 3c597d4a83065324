-- `lookup::digit` meets its contract.
use mathlib.Core.Path.{refl}
use native.Mathlib.Omega.{arith}
use Rattle.lookup.proofs.Placing.{labelled}
use Rattle.lookup.proofs.digit.Goals as goal

pub overflow_cast-result : goal.overflow_cast-result
overflow_cast-result c = omega (arith, labelled c.requires.0 _ c.requires.1)

pub overflow_sub-result : goal.overflow_sub-result
overflow_sub-result c = (labelled c.requires.0 _ c.requires.1).0

pub returns : goal.returns
returns c = (refl, omega (arith, labelled c.requires.0 _ c.requires.1))
