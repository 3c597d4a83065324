-- The bits of a number, as facts: under each operation, and the lowest.
use mathlib.Core.Path.{◌≡◌}
use mathlib.Core.Logic.{◌⊎◌, inl, inr, ⊎_elim, ◌↔◌}
use Prim.Native.Nat.{ℕ, ◌-◌, ◌^◌, ◌<◌, min}
use native.Mathlib.Omega.{arith}
use native.Mathlib.Decide.{ℕ_discrete, dec_lt}
use lib.Bits.{bit_and, bit_or}
use lib.Count.{count_trailing_zeros}
use Rattle.std.specs.Int.{w64, bit_at, bit_not}
use Rattle.std.proofs.lemmas.Nat.Bits.{bit_at-zero, bit_at_and, bit_at_or, bit_at_not, bit_at_above, bit_at-trailing_zeros}

pub no_bit : (i : ℕ) → bit_at 0 i ≡ 1 → ⊥
no_bit i e = omega (arith, bit_at-zero i)

module _ (x y i : ℕ) where
  pub or_iff : (bit_at (bit_or x y) i ≡ 1) ↔ ((bit_at x i ≡ 1) ⊎ (bit_at y i ≡ 1))
  or_iff = (out, ⊎_elim (λ e. omega (arith, bit_at_or x y i)) (λ e. omega (arith, bit_at_or x y i)))
    where
      out : bit_at (bit_or x y) i ≡ 1 → (bit_at x i ≡ 1) ⊎ (bit_at y i ≡ 1)
      out e = elim (ℕ_discrete (bit_at x i) 1) [ yes p ↦ inl p | no p ↦ inr (omega (arith, bit_at_or x y i)) ]

  pub and_iff : (bit_at (bit_and x y) i ≡ 1) ↔ ((bit_at x i ≡ 1) × (bit_at y i ≡ 1))
  and_iff = (λ e. omega (arith, bit_at_and x y i), λ e. omega (arith, bit_at_and x y i))

  pub without_iff : y < 2 ^ 64 → i < 64 → (bit_at (bit_and x (bit_not w64 y)) i ≡ 1) ↔ ((bit_at x i ≡ 1) × (bit_at y i ≡ 1 → ⊥))
  without_iff h l = (
    λ e. (omega (arith, is, rest), λ f. omega (arith, is, rest)),
    λ e. omega (arith, is, rest),
  )
    where
      is : bit_at (bit_and x (bit_not w64 y)) i ≡ min (bit_at x i) (bit_at (bit_not w64 y) i)
      is = bit_at_and x (bit_not w64 y) i

      rest : bit_at (bit_not w64 y) i ≡ 1 - bit_at y i
      rest = bit_at_not w64 y i h l

-- a number below 2 ^ k has no bit from k on
pub bit_below : (k x i : ℕ) → x < 2 ^ k → bit_at x i ≡ 1 → i < k
bit_below k x i h e = elim (dec_lt i k) [ yes l ↦ l | no l ↦ absurd (omega (arith, bit_at_above x k i h (omega arith))) ]

-- t is the lowest bit of x
pub record Lowest (x t : ℕ) : Type 0 where
  pub here : bit_at x t ≡ 1
  pub before : (i : ℕ) → i < t → bit_at x i ≡ 1 → ⊥

pub lowest : (x : ℕ) → x < 2 ^ 64 → (x ≡ 0 → ⊥) → Lowest x (count_trailing_zeros 64 x)
lowest x h n =
    let is = bit_at-trailing_zeros w64 x (omega arith) h in
    record { here = is.1; before = λ i l e. omega (arith, is.2 i l) }
