-- What binary search finds is where the edge belongs.
use mathlib.Core.Path.{◌≡◌, refl, sym, ap}
use mathlib.Core.List.{List, [], ◌∷◌}
use Prim.Native.Nat.{ℕ, zero, suc, ◌≤◌, ◌<◌, suc-le-suc}
use native.Mathlib.Nat.{le_of_suc-le-suc}
use native.Mathlib.Omega.{arith}
use lib.ListN.{length, get_or}
use borrow.Author.Tests.{lt-ltb, le-ltb}
use Rattle.std.specs.Prelude.{Result, Ok, Err, MatchResult}
use Rattle.std.specs.Ordering.{nat_cmp}
use Rattle.std.specs.List.Sorted.{IsBinarySearchResult}
use Rattle.std.proofs.lemmas.List.Sorted.{searched}
use Rattle.model.specs.Lists.{Rising}
use Rattle.model.specs.Computed.Lists.{lower_bound}
use Rattle.model.proofs.Lists.{rising_le, rising_lt}
use Rattle.edges.specs.Memory.{find_of}
use Rattle.edges.proofs.Memory.{find_at, find_before}

bound_is : (x : ℕ) (ys : List ℕ) (k : ℕ) → k ≤ length ys → ((i : ℕ) → i < k → get_or ys i 0 < x) → (k < length ys → x ≤ get_or ys k 0) → lower_bound x ys ≡ k
unfolding lower_bound
bound_is x [] k h u a = omega arith
bound_is x (y ∷ ys) zero h u a = rw (le-ltb y x (a (omega arith))) refl
bound_is x (y ∷ ys) (suc k) h u a =
    rw (lt-ltb y x (u 0 (omega arith)))
    (ap suc (bound_is x ys k (le_of_suc-le-suc h) (λ i l. u (suc i) (suc-le-suc l)) (λ l. a (suc-le-suc l))))

module _ (x : ℕ) (ys : List ℕ) (r : Rising ys) where
  found : (q : Result ℕ ℕ)
      → MatchResult q (λ i. (i < length ys) × (get_or ys i 0 ≡ x)) (λ i. (i ≤ length ys) × ((k : ℕ) → k < i → get_or ys k 0 < x) × ((k : ℕ) → i ≤ k → k < length ys → x < get_or ys k 0))
      → q ≡ find_of x ys
  found (Ok i) (h, e) =
      let p = bound_is x ys i (omega arith) (λ k l. omega (arith, rising_lt r k i l h)) (λ _. omega arith) in
      sym (find_at x ys p h e)
  found (Err i) (h, below, above) =
      let p = bound_is x ys i h below (λ l. omega (arith, above i (omega arith) l)) in
      sym (find_before x ys p (λ l e. omega (arith, above i (omega arith) l)))

  pub binary_finds : (q : Result ℕ ℕ) → IsBinarySearchResult (λ y. nat_cmp y x) ys q → q ≡ find_of x ys
  binary_finds q h = found q (searched ys x q h (rising_le r))
