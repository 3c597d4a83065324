-- Two tests of both patterns of a query by two, taken apart.
use mathlib.Core.Path.{◌≡◌, refl}
use mathlib.Core.Bool.{Bool, true, false, ◌&&◌, ◌||◌}
use mathlib.Core.List.{List}
use Prim.Native.Nat.{ℕ}
use native.Mathlib.Omega.{arith}
use lib.Dec.{eqb}
use Rattle.model.specs.Computed.Patterns.{times_written, once?}
use Rattle.calls.specs.Query.{lacking?}
use Rattle.calls.specs.QueryTwo.{either_lacks?, both_once?}

neither : (a b : Bool) → a || b ≡ false → (a ≡ false) × (b ≡ false)
neither true b e = absurd (let z : ◌≡◌ {A = ℕ} 0 1 = cc in omega arith)
neither false b e = (refl, e)

both : (a b : Bool) → a && b ≡ true → (a ≡ true) × (b ≡ true)
both true b e = (refl, e)
both false b e = absurd (let z : ◌≡◌ {A = ℕ} 0 1 = cc in omega arith)

module _ (first second : List ℕ) where
  pub neither_lacks : (totals : List ℕ) → either_lacks? totals first second ≡ false → (lacking? totals first ≡ false) × (lacking? totals second ≡ false)
  unfolding either_lacks?
  neither_lacks totals e = neither (lacking? totals first) (lacking? totals second) e

  pub both_once : both_once? first second ≡ true → (once? first ≡ true) × (once? second ≡ true)
  unfolding both_once?
  both_once e = both (once? first) (once? second) e

  -- one after the other
  pub once_second : {n : ℕ} → once? first ≡ true → n ≡ times_written second → eqb n 1 ≡ both_once? first second
  unfolding both_once? once?
  once_second e c = rw (e, c) refl

  pub first_repeats : once? first ≡ false → both_once? first second ≡ false
  unfolding both_once?
  first_repeats e = rw e refl

  pub lacks_first : (totals : List ℕ) → lacking? totals first ≡ true → either_lacks? totals first second ≡ true
  unfolding either_lacks?
  lacks_first totals e = rw e refl

  pub lacks_second : (totals : List ℕ) → lacking? totals first ≡ false → either_lacks? totals first second ≡ lacking? totals second
  unfolding either_lacks?
  lacks_second totals e = rw e refl
