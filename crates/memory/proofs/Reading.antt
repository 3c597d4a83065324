-- What stands in memory, for a caller.
use mathlib.Core.Path.{◌≡◌, refl, ap}
use mathlib.Core.List.{List, [], ◌∷◌}
use Prim.Native.Nat.{ℕ, ◌≤◌, zero-le, suc-le-suc}
use native.Mathlib.Decide.{ℕ_discrete}
use lib.ListN.{length, take}
use borrow.Author.Tests.{eq-eqb, ne_eqb}
use Rattle.model.specs.Edges.{standing}

pub standing_within : (s : List ℕ) → length (standing s) ≤ length s
unfolding standing
standing_within [] = zero-le
standing_within (x ∷ s) = elim (ℕ_discrete x 0) [
  | yes e ↦ rw (eq-eqb x 0 e) zero-le
  | no n ↦ rw (ne_eqb x 0 n) (suc-le-suc (standing_within s))
]

pub standing_front : (s : List ℕ) → take (length (standing s)) s ≡ standing s
unfolding standing
standing_front [] = refl
standing_front (x ∷ s) = elim (ℕ_discrete x 0) [
  | yes e ↦ rw (eq-eqb x 0 e) refl
  | no n ↦ rw (ne_eqb x 0 n) (ap (λ (l : List ℕ). x ∷ l) (standing_front s))
]
