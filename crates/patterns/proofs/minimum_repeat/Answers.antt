-- `patterns::minimum_repeat` meets its contract: the recursion gives the length, and it divides the pattern's.
use mathlib.Core.Path.{sym, ◌∙◌}
use native.Mathlib.Omega.{arith}
use Rattle.model.specs.Limits.{most_longest}
use Rattle.model.specs.Patterns.{Keyed}
use Rattle.model.proofs.Tests.{test_yields}
use Rattle.model.proofs.Patterns.{test_keyed}
use Rattle.patterns.proofs.Lengths.{found_some, folded_found, folded_not, from_first}
use Rattle.patterns.proofs.minimum_repeat.Goals as goal
use Rattle.patterns.proofs.minimum_repeat.Goals.{Then-is_keyed}

keyed : (c : Then-is_keyed) → Keyed most_longest c.args.pattern.now
keyed c = test_yields (test_keyed _ _) (sym c.is_keyed.ensures ∙ c.if-is_keyed.true)

pub length_from-length-requires : goal.length_from-length-requires
length_from-length-requires c = (omega arith, (keyed (goal.at.length_from-length-requires c).Then-is_keyed).long)

pub returns-then-is_keyed : goal.returns-then-is_keyed
returns-then-is_keyed c = folded_found _ (keyed (goal.at.returns-then-is_keyed c).Then-is_keyed) (c.length_from-length.ensures ∙ from_first _)

pub returns-else-is_keyed : goal.returns-else-is_keyed
returns-else-is_keyed c = folded_not _ (sym c.is_keyed.ensures ∙ c.if-is_keyed.false)

pub nonzero_div-result : goal.nonzero_div-result
nonzero_div-result c = found_some _ (keyed (goal.at.nonzero_div-result c).Then-is_keyed) (c.length_from-length.ensures ∙ from_first _)
