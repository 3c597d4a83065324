-- Zeros behind what stands in memory: what the test for them says; numbers that rise, then zeros.
use mathlib.Core.Path.{◌≡◌, refl, ap, ◌∙◌}
use mathlib.Core.Logic.{⊎_elim}
use mathlib.Core.Bool.{Bool, true, false}
use mathlib.Core.List.Memᴰ
use mathlib.Core.List.{List, [], ◌∷◌, ◌++◌}
use Prim.Native.Nat.{ℕ, zero, suc, ◌-◌, ◌≤◌, ◌<◌}
use native.Mathlib.Decide.{ℕ_discrete}
use native.Mathlib.Omega.{arith}
use lib.Dec.{T, eqb}
use lib.ListN.{length, take, replicate, length-append, length-replicate}
use lib.Seq.{take-append_seam}
use borrow.Author.Tests.{eq-eqb, ne_eqb}
use Rattle.model.specs.Lists.{◌∈◌, none, next, Rising, filled, zeroed}
use Rattle.model.specs.Edges.{standing}
use Rattle.model.specs.Computed.Edges.{zeros?, rising?}
use Rattle.model.proofs.Tests.{test_true, test_false, test_and, test_eq, test_lt, test_T}

pub not_zero : (x : ℕ) → 1 ≤ x → eqb x 0 ≡ false
not_zero x h = test_false (test_eq x 0) (λ e. omega arith)

zeros_zeros : (k : ℕ) → zeros? (replicate k 0) ≡ true
unfolding zeros?
zeros_zeros zero = refl
zeros_zeros (suc k) = zeros_zeros k

pub zeros_out : (xs : List ℕ) → T (zeros? xs) → xs ≡ zeroed xs
unfolding zeros?
zeros_out [] h = refl
zeros_out (x ∷ xs) h = let (a, b) = (test_and (test_eq x 0) (test_T (zeros? xs))).yields h in cc (zeros_out xs b)

pub zero_in : (m : ℕ) {x : ℕ} → x ∈ replicate m 0 → x ≡ 0
zero_in zero h = absurd (Memᴰ.not-nil h)
zero_in (suc m) h = ⊎_elim (λ e. e) (λ k. zero_in m k) (Memᴰ.cases_cons h)

-- ---- numbers with zeros behind them

module _ {xs : List ℕ} (s : List ℕ) (zeros : xs ≡ filled (length xs) s) where
  pub filled_within : length s ≤ length xs
  filled_within = omega (arith, simp (length-append, length-replicate) at (ap length zeros))

  pub filled_front : take (length s) xs ≡ s
  filled_front = ap (take (length s)) zeros ∙ take-append_seam s _

-- ---- numbers that pass a test and rise, then zeros: they pass, and what passes is such

module _ (f : ℕ → Bool) where
  none_left : (prev k : ℕ) → rising? f prev (replicate k 0) ≡ true
  none_left prev zero = refl
  none_left prev (suc k) = zeros_zeros k

  pub rising_zeros : (k prev : ℕ) {l : List ℕ} → Rising l → ((x : ℕ) → x ∈ l → (prev < x) × (f x ≡ true)) → rising? f prev (l ++ replicate k 0) ≡ true
  rising_zeros k prev none h = none_left prev k
  rising_zeros k prev (next {x = x} r s) h =
      let (a, b) = h x (Memᴰ.head refl) in
      rw (not_zero x (omega arith), test_true (test_lt prev x) a, b) (rising_zeros k x s (λ z m. (r z m, (h z (Memᴰ.tail m)).1)))

-- the numbers s pass the test and rise in xs from above prev, and zeros follow them
pub record Ordered (f : ℕ → Bool) (prev : ℕ) (xs s : List ℕ) : Type 0 where
  pub each : (x : ℕ) → x ∈ s → (prev < x) × (f x ≡ true)
  pub sorted : Rising s
  pub zeros : xs ≡ filled (length xs) s

module _ {f : ℕ → Bool} {prev x : ℕ} {xs : List ℕ} where
  ordered_next : {s : List ℕ} → prev < x → T (f x) → Ordered f x xs s → Ordered f prev (x ∷ xs) (x ∷ s)
  ordered_next {s} l e o =
      record {
        each = λ z m. ⊎_elim (λ q. rw q (l, test_true (test_T (f x)) e)) (λ k. let (a, b) = o.each z k in (omega arith, b)) (Memᴰ.cases_cons m);
        sorted = next (λ z m. (o.each z m).0) o.sorted;
        zeros =
            let q : length xs - length s ≡ suc (length xs) - suc (length s) = omega arith in
            ap (λ (l : List ℕ). x ∷ l) (o.zeros ∙ ap (λ (m : ℕ). s ++ replicate m 0) q);
      }

  ordered_zero : x ≡ 0 → T (zeros? xs) → Ordered f prev (x ∷ xs) []
  ordered_zero e z =
      record {
        each = λ z m. absurd (Memᴰ.not-nil m);
        sorted = none;
        zeros =
            let q : suc (length xs) ≡ suc (length xs) - 0 = omega arith in
            rw e (ap (λ (l : List ℕ). 0 ∷ l) (zeros_out xs z) ∙ ap (λ (m : ℕ). replicate m 0) q);
      }

pub ordered : (f : ℕ → Bool) (prev : ℕ) (xs : List ℕ) → T (rising? f prev xs) → Ordered f prev xs (standing xs)
unfolding standing
ordered f prev [] h = record { each = λ z m. absurd (Memᴰ.not-nil m); sorted = none; zeros = refl }
ordered f prev (x ∷ xs) h = elim (ℕ_discrete x 0) [
  | yes e ↦ rw (eq-eqb x 0 e) (ordered_zero e (rw (eq-eqb x 0 e) at h))
  | no n ↦
      let (a, b) = (test_and (test_lt prev x) (test_and (test_T (f x)) (test_T (rising? f x xs)))).yields (rw (ne_eqb x 0 n) at h) in
      rw (ne_eqb x 0 n) (ordered_next a b.0 (ordered f x xs b.1))
]
