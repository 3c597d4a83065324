-- Counting without counting: different elements of a list are no more than it has; and rising lists with the same members are the same.
use mathlib.Core.Path.{◌≡◌, refl, sym, ap, ap₂, ◌∙◌}
use mathlib.Core.List.Memᴰ
use mathlib.Core.List.{List, [], ◌∷◌}
use mathlib.Core.Logic.{⊎_elim, ◌≢◌}
use Prim.Native.Nat.{ℕ, zero, suc, ◌+◌, ◌≤◌, ◌<◌}
use native.Mathlib.Omega.{arith}
use native.Mathlib.Nat.{eq-or-lt_of_le}
use lib.ListN.{length}
use Rattle.model.specs.Lists.{◌∈◌, Sorted, none, next, Rising}
use Rattle.model.specs.Edges.{Graph}
use Rattle.model.specs.Entries.{IsEntry}
use Rattle.model.specs.Computed.Edges.{Small}
use Rattle.model.specs.Computed.Entries.{entries}
use Rattle.model.proofs.Entries.{entries_in, entries_out, entries_rise}

-- a list without one of its elements
taken : {x : ℕ} {l : List ℕ} → x ∈ l → (m : List ℕ) × (length l ≡ suc (length m)) × ((y : ℕ) → y ∈ l → y ≢ x → y ∈ m)
taken {x} (Memᴰ.head {xs = l} e) = (l, refl, λ y h n. ⊎_elim (λ q. absurd (n (q ∙ sym e))) (λ k. k) (Memᴰ.cases_cons h))
taken {x} (Memᴰ.tail {x = z} {xs = l} t) =
    let (m, e, f) = taken t in
    (z ∷ m, ap suc e, λ y h n. ⊎_elim (λ q. Memᴰ.head q) (λ k. Memᴰ.tail (f y k n)) (Memᴰ.cases_cons h))

-- different elements of a list are no more than it has
pub no_more : {l : List ℕ} → Sorted ◌≢◌ l → (m : List ℕ) → ((x : ℕ) → x ∈ l → x ∈ m) → length l ≤ length m
no_more none m f = omega arith
no_more (next {x = x} {l = l} d s) m f =
    let (m', e, g) = taken (f x (Memᴰ.head refl)) in
    omega (arith, no_more s m' (λ z h. g z (f z (Memᴰ.tail h)) (λ q. d z h (sym q))))

-- the numbers f a, f (a + 1), .., n of them
unfoldable pub listed : (ℕ → ℕ) → ℕ → ℕ → List ℕ
listed f a zero = []
listed f a (suc n) = f a ∷ listed f (suc a) n

module _ (f : ℕ → ℕ) where
  pub length_listed : (a n : ℕ) → length (listed f a n) ≡ n
  unfolding listed
  length_listed a zero = refl
  length_listed a (suc n) = ap suc (length_listed (suc a) n)

  pub listed_in : (a n i : ℕ) → a ≤ i → i < a + n → f i ∈ listed f a n
  unfolding listed
  listed_in a zero i h k = absurd (omega arith)
  listed_in a (suc n) i h k = ⊎_elim (λ e. Memᴰ.head (ap f (sym e))) (λ l. Memᴰ.tail (listed_in (suc a) n i l (omega arith))) (eq-or-lt_of_le h)

  pub listed_out : (a n x : ℕ) → x ∈ listed f a n → (i : ℕ) × ((a ≤ i) × ((i < a + n) × (x ≡ f i)))
  unfolding listed
  listed_out a zero x h = absurd (Memᴰ.not-nil h)
  listed_out a (suc n) x h = ⊎_elim
      (λ e. (a, (omega arith, (omega arith, e))))
      (λ k. let (i, (p, (q, e))) = listed_out (suc a) n x k in (i, (omega arith, (omega arith, e))))
      (Memᴰ.cases_cons h)

  pub listed_apart : (a n : ℕ) → ((i j : ℕ) → a ≤ i → i < j → j < a + n → f i ≡ f j → ⊥) → Sorted ◌≢◌ (listed f a n)
  unfolding listed
  listed_apart a zero d = none
  listed_apart a (suc n) d = next
      (λ z h e. let (i, (p, (q, r))) = listed_out (suc a) n z h in d a i (omega arith) (omega arith) (omega arith) (e ∙ r))
      (listed_apart (suc a) n (λ i j h k l. d i j (omega arith) k (omega arith)))

-- rising lists with the same members are the same: what is left to show once the stage is sorted
pub rising_same : {l m : List ℕ} → Rising l → Rising m → ((x : ℕ) → x ∈ l → x ∈ m) → ((x : ℕ) → x ∈ m → x ∈ l) → l ≡ m
rising_same none none f g = refl
rising_same none (next {x = z} d s) f g = absurd (Memᴰ.not-nil (g z (Memᴰ.head refl)))
rising_same (next {x = z} d s) none f g = absurd (Memᴰ.not-nil (f z (Memᴰ.head refl)))
rising_same (next {x = a} {l = l} d s) (next {x = b} {l = m} e t) f g =
    let q : a ≡ b = heads in
    ap₂ ◌∷◌ q (rising_same s t
    (λ x h. ⊎_elim (λ i. absurd (omega (arith, d x h, i, q))) (λ k. k) (Memᴰ.cases_cons (f x (Memᴰ.tail h))))
    (λ x h. ⊎_elim (λ i. absurd (omega (arith, e x h, i, q))) (λ k. k) (Memᴰ.cases_cons (g x (Memᴰ.tail h)))))
  where
    heads : a ≡ b
    heads = ⊎_elim (λ i. i) (λ h. ⊎_elim (λ j. sym j) (λ k. absurd (omega (arith, e a h, d b k))) (Memᴰ.cases_cons (g b (Memᴰ.head refl)))) (Memᴰ.cases_cons (f a (Memᴰ.head refl)))

-- a rising list of the determined entries, and all of them, is their list
pub index_is : (g : Graph) (order : List ℕ) → Small g → (l : List ℕ) → Rising l → ((x : ℕ) → x ∈ l → IsEntry g order x) → ((x : ℕ) → IsEntry g order x → x ∈ l) → l ≡ entries g order
index_is g order small l s f h = rising_same s (entries_rise g order small) (λ x m. entries_in g order small (f x m)) (λ x m. h x (entries_out g order small m))

-- n different entries and one more are more than n
pub more_entries : (g : Graph) (order : List ℕ) → Small g → (n : ℕ) (f : ℕ → ℕ) (extra : ℕ) → ((i : ℕ) → i < n → IsEntry g order (f i)) → IsEntry g order extra
    → ((i j : ℕ) → i < j → j < n → f i ≡ f j → ⊥) → ((i : ℕ) → i < n → f i ≡ extra → ⊥) → n < length (entries g order)
more_entries g order small n f extra each one apart fresh =
    let up = no_more
    (next (λ z m e. let (i, (p, (q, r))) = listed_out f 0 n z m in fresh i (omega arith) (sym r ∙ sym e)) (listed_apart f 0 n (λ i j h k l. apart i j k (omega arith))))
    (entries g order)
    (λ x m. ⊎_elim (λ e. rw e (entries_in g order small one)) (λ k. let (i, (p, (q, e))) = listed_out f 0 n x k in rw e (entries_in g order small (each i (omega arith)))) (Memᴰ.cases_cons m)) in
    omega (arith, up, length_listed f 0 n)
