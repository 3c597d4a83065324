-- The entries of the vertices below a number.
use mathlib.Core.Logic.{◌⊎◌, ⊎_map, ◌↔◌}
use Prim.Native.Nat.{ℕ, ◌+◌, ◌≤◌, ◌<◌}
use native.Mathlib.Omega.{arith}
use native.Mathlib.Decide.{dec_lt}
use Rattle.model.specs.Build.Suffixes.{Some}
use Rattle.model.proofs.Suffixes.{some_up, some_more}

module _ {G : ℕ → ℕ → Type 0} where
  -- vertex n comes in, if its entries are those of F
  pub some_also : {F : Type 0} (n e : ℕ) → F ↔ G n e → (Some n G e ⊎ F) ↔ Some (n + 1) G e
  some_also n e f = (λ x. (some_more n e).0 (⊎_map (λ s. s) f.0 x), λ x. ⊎_map (λ s. s) f.1 ((some_more n e).1 x))

  -- vertices without entries are passed over
  pub some_on : {n q e : ℕ} → n ≤ q → ((v : ℕ) → n ≤ v → v < q → G v e → ⊥) → Some n G e ↔ Some q G e
  some_on {n} h gap = (
    some_up h,
    λ s. elim (dec_lt s.which n) [
      | yes l ↦ record { which = s.which; small = l; holds = s.holds }
      | no l ↦ absurd (gap s.which (omega arith) s.small s.holds)
    ],
  )
