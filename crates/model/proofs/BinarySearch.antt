-- Binary search: the two ends bracket the slot where a key belongs, and what that slot says of the key.
use mathlib.Core.Path.{◌≡◌, sym}
use mathlib.Core.Logic.{◌≢◌}
use mathlib.Core.Bool.{false}
use mathlib.Core.List.{List}
use Prim.Native.Nat.{ℕ, ◌+◌, ◌≤◌, ◌<◌, zero-le}
use native.Mathlib.Nat.{le_refl}
use native.Mathlib.Decide.{ℕ_discrete, dec_lt}
use native.Mathlib.Omega.{arith}
use lib.Dec.{eqb}
use lib.ListN.{length, get_or}
use borrow.Author.Tests.{eq-eqb, ne_eqb}
use Rattle.model.specs.Lists.{◌∈◌, mem?, Rising}
use Rattle.model.specs.Computed.Lists.{Bracket}
use Rattle.model.proofs.Tests.{test_true, test_false, test_mem}
use Rattle.model.proofs.Lists.{get_d_in, in_get_d, rising_lt, rising_le}

pub bracket_start : (xs : List ℕ) (key : ℕ) → Bracket xs key 0 (length xs)
bracket_start xs key = record { met = zero-le; most = le_refl (length xs); under = λ i h. absurd (omega arith); above = λ i h k. absurd (omega arith) }

module _ {xs : List ℕ} {key lo hi : ℕ} (r : Rising xs) (b : Bracket xs key lo hi) (mid : ℕ) (low : lo ≤ mid) (high : mid < hi) where
  pub bracket_right : get_or xs mid 0 < key → Bracket xs key (mid + 1) hi
  bracket_right l = record {
    met = omega arith;
    most = b.most;
    under = λ i h. omega (arith, rising_le r i mid (omega arith) (omega (arith, b.most)));
    above = b.above;
  }

  pub bracket_left : key ≤ get_or xs mid 0 → Bracket xs key lo mid
  bracket_left l = record { met = low; most = omega (arith, b.most); under = b.under; above = λ i h k. omega (arith, rising_le r mid i h k) }

pub bracket_met : {xs : List ℕ} {key lo hi : ℕ} → Bracket xs key lo hi → hi ≤ lo → Bracket xs key lo lo
bracket_met b h = record { met = le_refl _; most = omega (arith, b.met, b.most); under = b.under; above = λ i l k. b.above i (omega arith) k }

-- ---- whether the key stands there

module _ {xs : List ℕ} {x i : ℕ} (r : Rising xs) (b : Bracket xs x i i) where
  lacks : (i < length xs → get_or xs i 0 ≢ x) → ¬ (x ∈ xs)
  lacks n m =
      let at = in_get_d m in
      elim (dec_lt at.i i) [
        | yes l ↦ omega (arith, b.under at.i l, at.is)
        | no l ↦ elim (dec_lt i at.i) [
          | yes k ↦ omega (arith, rising_lt r i at.i k at.inside, b.above i (omega arith) (omega (arith, at.inside)), at.is)
          | no k ↦ let e : at.i ≡ i = omega arith in n (rw e at at.inside) (rw e at at.is)
        ]
      ]

  pub has_at : i < length xs → eqb (get_or xs i 0) x ≡ mem? x xs
  has_at h = elim (ℕ_discrete (get_or xs i 0) x) [
    | yes e ↦ rw (eq-eqb (get_or xs i 0) x e) (sym (test_true (test_mem x xs) (rw e at (get_d_in xs i h))))
    | no n ↦ rw (ne_eqb (get_or xs i 0) x n) (sym (test_false (test_mem x xs) (lacks (λ _. n))))
  ]

  pub has_none : length xs ≤ i → mem? x xs ≡ false
  has_none h = test_false (test_mem x xs) (lacks (λ l. absurd (omega arith)))
