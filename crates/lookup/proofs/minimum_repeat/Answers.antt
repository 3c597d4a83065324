-- `lookup::minimum_repeat` meets its contract. What `length_at` requires of the constant is computed here, over the whole table.
use mathlib.Core.Path.{◌≡◌, sym, ap, ◌∙◌}
use Prim.Native.Nat.{ℕ}
use native.Mathlib.Omega.{arith}
use lib.ListN.{length, get_or}
use Rattle.model.specs.Limits.{table_longest}
use Rattle.model.specs.Lists.{from}
use Rattle.model.specs.Patterns.{times, Keyed}
use Rattle.model.specs.Computed.Lists.{spread}
use Rattle.model.specs.Computed.Patterns.{repeat_from, min_repeat, words, keyed_patterns}
use Rattle.model.specs.Computed.Table.{repeat_lengths}
use Rattle.model.proofs.Tests.{test_yields}
use Rattle.model.proofs.Patterns.{test_keyed}
use Rattle.patterns.proofs.Lengths.{found_some, folded_found, folded_not}
use Rattle.lookup.specs.Table.{tested?}
use Rattle.lookup.proofs.Table.{place_inside, defined_there}
use Rattle.lookup.proofs.minimum_repeat.Goals as goal
use Rattle.lookup.proofs.minimum_repeat.Goals.{After-length_at-length, Then-is_keyed}

keyed : (c : Then-is_keyed) → Keyed table_longest c.args.pattern.now
keyed c = test_yields (test_keyed _ _) (sym c.is_keyed.ensures ∙ c.if-is_keyed.true)

pub length_at-length-requires : goal.length_at-length-requires
unfolding from times spread repeat_from min_repeat words keyed_patterns repeat_lengths tested?
length_at-length-requires c = (tt, omega (arith, c.place.ensures, place_inside _ (keyed (goal.at.length_at-length-requires c).Then-is_keyed)))

-- what was looked up is the length of the minimum repeat
looked_up_lem : (c : After-length_at-length) → c.length_at-length.result ≡ length (min_repeat c.args.pattern.now)
looked_up_lem c =
    c.length_at-length.ensures ∙ ap (λ (i : ℕ). get_or repeat_lengths i 0) c.place.ensures ∙ defined_there _ (test_yields (test_keyed _ _) (sym c.is_keyed.ensures ∙ c.if-is_keyed.true))

pub returns-then-is_keyed : goal.returns-then-is_keyed
returns-then-is_keyed c = folded_found _ (keyed (goal.at.returns-then-is_keyed c).Then-is_keyed) (looked_up_lem (goal.at.returns-then-is_keyed c).After-length_at-length)

pub returns-else-is_keyed : goal.returns-else-is_keyed
returns-else-is_keyed c = folded_not _ (sym c.is_keyed.ensures ∙ c.if-is_keyed.false)

pub place-requires : goal.place-requires
place-requires c = keyed (goal.at.place-requires c).Then-is_keyed

pub nonzero_div-result : goal.nonzero_div-result
nonzero_div-result c = found_some _ (keyed (goal.at.nonzero_div-result c).Then-is_keyed) (looked_up_lem (goal.at.nonzero_div-result c).After-length_at-length)
