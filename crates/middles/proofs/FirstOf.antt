-- The numbers below n looked at one after another: the lowest that passes a test, from v on.
use mathlib.Core.Path.{◌≡◌, refl}
use mathlib.Core.Bool.{Bool, true, false, ◌&&◌}
use mathlib.Core.List.{List}
use Prim.Native.Nat.{ℕ, suc, ◌+◌, ◌-◌, ◌≤◌, ◌<◌}
use native.Mathlib.Nat.{sub-zero}
use native.Mathlib.Numerals.{add-one}
use native.Mathlib.Omega.{arith}
use lib.ListN.{get_or}
use Rattle.model.specs.Lists.{keep, from, up_to}
use Rattle.model.specs.Middles.{TwoAnswered, Yes, No}
use Rattle.calls.specs.QueryTwo.{lowest}

-- v is marked in both tables
abbrev pub both : List Bool → List Bool → ℕ → Bool
both out home v = get_or out v false && get_or home v false

module _ (f : ℕ → Bool) (n : ℕ) where
  -- the lowest from v on
  abbrev pub lowest_from : ℕ → TwoAnswered
  lowest_from v = lowest (keep f (from v (n - v)))

  pub lowest_start : lowest_from 0 ≡ lowest (keep f (up_to n))
  lowest_start = rw (sub-zero n) refl

  pub lowest_here : (v : ℕ) → v < n → f v ≡ true → lowest_from v ≡ Yes v
  unfolding keep from
  lowest_here v h e = let more : n - v ≡ suc (n - (v + 1)) = omega arith in rw (more, e) refl

  pub lowest_next : (v : ℕ) → v < n → f v ≡ false → lowest_from v ≡ lowest_from (v + 1)
  unfolding keep from
  lowest_next v h e = let more : n - v ≡ suc (n - (v + 1)) = omega arith in rw (more, e, add-one v) refl

  pub lowest_none : (v : ℕ) → n ≤ v → lowest_from v ≡ No
  unfolding keep from
  lowest_none v h = let none : n - v ≡ 0 = omega arith in rw none refl
