-- A sum falls if one of its terms falls and none rises.
use Prim.Native.Nat.{ℕ, zero, suc, ◌+◌, ◌≤◌, ◌<◌}
use native.Mathlib.Nat.{le_refl}
use native.Mathlib.Omega.{arith}
use native.Mathlib.Decide.{ℕ_discrete}

-- f 0 to f (n - 1), added
unfoldable pub sum : (ℕ → ℕ) → ℕ → ℕ
sum f zero = 0
sum f (suc n) = f n + sum f n

module _ {f g : ℕ → ℕ} where
  sum_le : (n : ℕ) → ((j : ℕ) → j < n → g j ≤ f j) → sum g n ≤ sum f n
  unfolding sum
  sum_le zero h = le_refl 0
  sum_le (suc n) h = omega (arith, h n (omega arith), sum_le n (λ j l. h j (omega arith)))

  pub sum_falls : (n p : ℕ) → p < n → ((j : ℕ) → j < n → g j ≤ f j) → g p < f p → sum g n < sum f n
  unfolding sum
  sum_falls zero p d h e = absurd (omega arith)
  sum_falls (suc n) p d h e = elim (ℕ_discrete p n) [
    | yes q ↦ omega (arith, sum_le n (λ j l. h j (omega arith)), rw q at e)
    | no q ↦ omega (arith, h n (omega arith), sum_falls n p (omega arith) (λ j l. h j (omega arith)) e)
  ]
