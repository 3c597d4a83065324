-- Lists that are computed, what stands in them, and in which order.
use mathlib.Core.Path.{◌≡◌, refl, sym, ap, ap₂, ◌∙◌, subst}
use mathlib.Core.Logic.{◌⊎◌, inl, inr, ⊎_elim, ◌≢◌}
use mathlib.Core.Bool.{Bool, true, false, not}
use mathlib.Core.List.Memᴰ
use mathlib.Core.List.{List, [], ◌∷◌, ◌++◌, append-nil, append_assoc, Memᴰ, map}
use Prim.Native.Nat.{ℕ, zero, suc, ◌+◌, ◌-◌, ◌*◌, ◌≤◌, ◌<◌}
use native.Mathlib.Nat.{eq-or-lt_of_le, le_of_suc-le-suc, not-suc-le-zero, le_of_eq, suc-mul}
use native.Mathlib.Decide.{ℕ_discrete}
use native.Mathlib.Omega.{arith}
use lib.Dec.{T}
use lib.ListN.{length, get_or, set, take, drop, length-append, length-drop, drop_of_length-le, get_or-append}
use lib.Seq.{get_or-append-add, get_or-set_same, get_or-set_other, take_all}
use Rattle.model.specs.Lists.{put, keep, from, up_to, Sorted, none, next, Rising}
use Rattle.model.specs.Computed.Lists.{spread}

module _ {A : Type 0} where
  put_in : (b : Bool) {x z : A} {l : List A} → (T b × (x ≡ z)) ⊎ Memᴰ x l → Memᴰ x (put b z l)
  put_in true (inl h) = Memᴰ.head h.1
  put_in true (inr m) = Memᴰ.tail m
  put_in false (inl h) = absurd h.0
  put_in false (inr m) = m

  put_out : (b : Bool) {x z : A} {l : List A} → Memᴰ x (put b z l) → (T b × (x ≡ z)) ⊎ Memᴰ x l
  put_out true m = ⊎_elim (λ e. inl (tt, e)) inr (Memᴰ.cases_cons m)
  put_out false m = inr m

  pub keep_in : (f : A → Bool) {x : A} {l : List A} → Memᴰ x l → T (f x) → Memᴰ x (keep f l)
  unfolding keep
  keep_in f (Memᴰ.head {x = z} e) t = put_in (f z) (inl (rw e at t, e))
  keep_in f (Memᴰ.tail {x = z} m) t = put_in (f z) (inr (keep_in f m t))

  pub keep_out : (f : A → Bool) {x : A} (l : List A) → Memᴰ x (keep f l) → Memᴰ x l × T (f x)
  unfolding keep
  keep_out f [] m = absurd (Memᴰ.not-nil m)
  keep_out f (z ∷ l) m = ⊎_elim (λ h. (Memᴰ.head h.1, rw h.1 h.0)) (λ k. let (a, t) = keep_out f l k in (Memᴰ.tail a, t)) (put_out (f z) m)

pub from_in : (a m x : ℕ) → a ≤ x → x < a + m → Memᴰ x (from a m)
unfolding from
from_in a zero x h k = absurd (omega arith)
from_in a (suc m) x h k = ⊎_elim (λ e. Memᴰ.head (sym e)) (λ b. Memᴰ.tail (from_in (suc a) m x b (omega arith))) (eq-or-lt_of_le h)

pub from_out : (a m x : ℕ) → Memᴰ x (from a m) → (a ≤ x) × (x < a + m)
unfolding from
from_out a zero x h = absurd (Memᴰ.not-nil h)
from_out a (suc m) x h = ⊎_elim (λ e. (omega arith, omega arith)) (λ k. let h = from_out (suc a) m x k in (omega arith, omega arith)) (Memᴰ.cases_cons h)

pub up_to_lem : {n x : ℕ} → x < n → Memᴰ x (up_to n)
up_to_lem {n} {x} h = from_in 0 n x (omega arith) (omega arith)

pub below : {n x : ℕ} → Memᴰ x (up_to n) → x < n
below {n} {x} m = omega (arith, from_out 0 n x m)

-- what passes a test and what fails it make up the list
pub length_keep : {A : Type 0} (f : A → Bool) (l : List A) → length (keep f l) + length (keep (λ x. not (f x)) l) ≡ length l
unfolding keep
length_keep f [] = refl
length_keep f (x ∷ l) = go (f x) (length_keep f l)
  where
    go : (b : Bool) → length (keep f l) + length (keep (λ x. not (f x)) l) ≡ length l
        → length (put b x (keep f l)) + length (put (not b) x (keep (λ x. not (f x)) l)) ≡ suc (length l)
    go true e = omega arith
    go false e = omega arith

pub length_from_lem : (a m : ℕ) → length (from a m) ≡ m
unfolding from
length_from_lem a zero = refl
length_from_lem a (suc m) = ap suc (length_from_lem (suc a) m)

pub spread_in : {A B : Type 0} (f : A → List B) {x : A} {l : List A} {b : B} → Memᴰ x l → Memᴰ b (f x) → Memᴰ b (spread f l)
unfolding spread
spread_in f (Memᴰ.head {x = z} {xs = l} e) h = Memᴰ.append_left (spread f l) (rw e at h)
spread_in f (Memᴰ.tail {x = z} m) h = Memᴰ.append_right (f z) (spread_in f m h)

pub spread_out : {A B : Type 0} (f : A → List B) (l : List A) {b : B} → Memᴰ b (spread f l) → (x : A) × Memᴰ x l × Memᴰ b (f x)
unfolding spread
spread_out f [] m = absurd (Memᴰ.not-nil m)
spread_out f (z ∷ l) m = ⊎_elim (λ h. (z, Memᴰ.head refl, h)) (λ k. let (x, a, b) = spread_out f l k in (x, Memᴰ.tail a, b)) (Memᴰ.append_cases (f z) m)

pub spread_append : {A B : Type 0} (f : A → List B) (l m : List A) → spread f (l ++ m) ≡ spread f l ++ spread f m
unfolding spread
spread_append f [] m = refl
spread_append {B = B} f (x ∷ l) m = ap (λ (n : List B). f x ++ n) (spread_append f l m) ∙ sym (append_assoc (f x) (spread f l) (spread f m))

pub rising_from : (a m : ℕ) → Rising (from a m)
unfolding from
rising_from a zero = none
rising_from a (suc m) = next (λ z h. (from_out (suc a) m z h).0) (rising_from (suc a) m)

-- a list that has an element has one at least
pub member_long : {A : Type 0} (l : List A) {z : A} → Memᴰ z l → 1 ≤ length l
member_long [] h = absurd (Memᴰ.not-nil h)
member_long (x ∷ l) h = omega arith

module _ {A : Type 0} {R : A → A → Type 0} where
  pub sorted_head : {y : A} {m : List A} → Sorted R (y ∷ m) → (z : A) → Memᴰ z m → R y z
  sorted_head (next f s) = f

  pub sorted_tail : {y : A} {m : List A} → Sorted R (y ∷ m) → Sorted R m
  sorted_tail (next f s) = s

  -- of two lists, one behind the other
  pub sorted_back : (l : List A) {m : List A} → Sorted R (l ++ m) → Sorted R m
  sorted_back [] s = s
  sorted_back (y ∷ l) (next f s) = sorted_back l s

  pub sorted_across : (l : List A) {m : List A} → Sorted R (l ++ m) → {x z : A} → Memᴰ x l → Memᴰ z m → R x z
  sorted_across [] s h k = absurd (Memᴰ.not-nil h)
  sorted_across (y ∷ l) (next f s) {x} {z} h k =
      ⊎_elim (λ e. subst (λ (u : A). R u z) (sym e) (f z (Memᴰ.append_right l k))) (λ i. sorted_across l s i k) (Memᴰ.cases_cons h)

  sorted_put : (b : Bool) (x : A) {l : List A} → ((z : A) → Memᴰ z l → R x z) → Sorted R l → Sorted R (put b x l)
  sorted_put true x f s = next f s
  sorted_put false x f s = s

  pub sorted_keep : (f : A → Bool) {l : List A} → Sorted R l → Sorted R (keep f l)
  unfolding keep
  sorted_keep f none = none
  sorted_keep f (next {x = x} {l = l} h s) = sorted_put (f x) x (λ z m. h z (keep_out f l m).0) (sorted_keep f s)

  pub sorted_imp : {S : A → A → Type 0} {l : List A} → ((x z : A) → R x z → S x z) → Sorted R l → Sorted S l
  sorted_imp f none = none
  sorted_imp f (next {x = x} h s) = next (λ z m. f x z (h z m)) (sorted_imp f s)

  -- by another order that follows for the list's elements
  pub sorted_as : {S : A → A → Type 0} {l : List A} → ((x z : A) → Memᴰ x l → Memᴰ z l → R x z → S x z) → Sorted R l → Sorted S l
  sorted_as f none = none
  sorted_as f (next {x = x} h s) =
      next (λ z m. f x z (Memᴰ.head refl) (Memᴰ.tail m) (h z m)) (sorted_as (λ y z a b. f y z (Memᴰ.tail a) (Memᴰ.tail b)) s)

  pub sorted_append : {l m : List A} → Sorted R l → Sorted R m → ((x z : A) → Memᴰ x l → Memᴰ z m → R x z) → Sorted R (l ++ m)
  sorted_append none r f = r
  sorted_append (next {x = x} {l = l} h s) r f =
      next (λ z k. ⊎_elim (h z) (λ j. f x z (Memᴰ.head refl) j) (Memᴰ.append_cases l k)) (sorted_append s r (λ u z a b. f u z (Memᴰ.tail a) b))

module _ {A B : Type 0} {R : A → A → Type 0} {S : B → B → Type 0} where
  pub sorted_map : (f : A → B) {l : List A} → ((x z : A) → R x z → S (f x) (f z)) → Sorted R l → Sorted S (map f l)
  sorted_map f h none = none
  sorted_map f h (next {x = x} {l = l} g s) = next {x = f x} (λ z m. let (a, k, e) = Memᴰ.of_map f l m in rw e at (h x a (g a k))) (sorted_map f h s)

  pub sorted_spread : (f : A → List B) {l : List A} → Sorted R l → ((x : A) → Memᴰ x l → Sorted S (f x))
      → ((x z : A) (b c : B) → R x z → Memᴰ x l → Memᴰ z l → Memᴰ b (f x) → Memᴰ c (f z) → S b c) → Sorted S (spread f l)
  unfolding spread
  sorted_spread f none h k = none
  sorted_spread f (next {x = x} {l = l} g s) h k = sorted_append (h x (Memᴰ.head refl))
      (sorted_spread f s (λ z m. h z (Memᴰ.tail m)) (λ u v b c r i j. k u v b c r (Memᴰ.tail i) (Memᴰ.tail j)))
      (λ b c i j. let (z, m, q) = spread_out f l j in k x z b c (g z m) (Memᴰ.head refl) (Memᴰ.tail m) i q)

-- functions that agree on a list's elements
pub map_as : {A B : Type 0} {f g : A → B} (l : List A) → ((x : A) → Memᴰ x l → f x ≡ g x) → map f l ≡ map g l
map_as [] h = refl
map_as (x ∷ l) h = ap₂ ◌∷◌ (h x (Memᴰ.head refl)) (map_as l (λ z m. h z (Memᴰ.tail m)))

pub keep_as : {A : Type 0} {f g : A → Bool} (l : List A) → ((x : A) → Memᴰ x l → f x ≡ g x) → keep f l ≡ keep g l
unfolding keep
keep_as [] h = refl
keep_as {A} {f} {g} (x ∷ l) h =
    ap₂ (λ (b : Bool) (m : List A). put b x m) (h x (Memᴰ.head refl)) (keep_as l (λ z m. h z (Memᴰ.tail m)))

-- ---- lists by their indices

-- of any elements, with d (and e) for what stands behind the last
module _ {A : Type 0} (d : A) where
  pub at_in : (l : List A) (i : ℕ) → i < length l → Memᴰ (get_or l i d) l
  at_in [] i h = absurd (not-suc-le-zero h)
  at_in (x ∷ l) zero h = Memᴰ.head refl
  at_in (x ∷ l) (suc i) h = Memᴰ.tail (at_in l i (le_of_suc-le-suc h))

  pub at_sorted : {R : A → A → Type 0} {l : List A} → Sorted R l → (p q : ℕ) → p < q → q < length l → R (get_or l p d) (get_or l q d)
  at_sorted none p q h k = absurd (not-suc-le-zero k)
  at_sorted (next {l = l} f s) zero zero h k = absurd (omega arith)
  at_sorted (next {l = l} f s) zero (suc q) h k = f (get_or l q d) (at_in l q (le_of_suc-le-suc k))
  at_sorted (next f s) (suc p) zero h k = absurd (not-suc-le-zero h)
  at_sorted (next f s) (suc p) (suc q) h k = at_sorted s p q (le_of_suc-le-suc h) (le_of_suc-le-suc k)

module _ {A B : Type 0} (d : A) (e : B) where
  pub at_map : (f : A → B) (l : List A) (i : ℕ) → i < length l → get_or (map f l) i e ≡ f (get_or l i d)
  at_map f [] i h = absurd (not-suc-le-zero h)
  at_map f (x ∷ l) zero h = refl
  at_map f (x ∷ l) (suc i) h = at_map f l i (le_of_suc-le-suc h)

  -- lists f x that all have n elements
  pub length_spread : (f : A → List B) (n : ℕ) → ((x : A) → length (f x) ≡ n) → (l : List A) → length (spread f l) ≡ length l * n
  unfolding spread
  length_spread f n h [] = omega arith
  length_spread f n h (x ∷ l) = omega (arith, length-append (f x) (spread f l), h x, length_spread f n h l, suc-mul (length l) n)

  pub at_spread : (f : A → List B) (n : ℕ) → ((x : A) → length (f x) ≡ n) → (l : List A) (i j : ℕ) → i < length l → j < n
      → get_or (spread f l) (i * n + j) e ≡ get_or (f (get_or l i d)) j e
  unfolding spread
  at_spread f n h [] i j p q = absurd (not-suc-le-zero p)
  at_spread f n h (x ∷ l) zero j p q =
      let first : 0 * n + j ≡ j = omega arith in
      rw first (get_or-append (f x) (spread f l) e j (omega (arith, h x)))
  at_spread f n h (x ∷ l) (suc i) j p q =
      let later : suc i * n + j ≡ length (f x) + (i * n + j) = omega (arith, h x, suc-mul i n) in
      rw later (get_or-append-add (f x) (spread f l) (i * n + j) e ∙ at_spread f n h l i j (le_of_suc-le-suc p) q)

pub at_from : (a m i : ℕ) → i < m → get_or (from a m) i 0 ≡ a + i
unfolding from
at_from a zero i h = absurd (not-suc-le-zero h)
at_from a (suc m) zero h = omega arith
at_from a (suc m) (suc i) h = omega (arith, at_from (suc a) m i (le_of_suc-le-suc h))

-- of numbers
pub get_d_in : (l : List ℕ) (i : ℕ) → i < length l → Memᴰ (get_or l i 0) l
get_d_in = at_in 0

pub get_d_map : (f : ℕ → ℕ) (l : List ℕ) (i : ℕ) → i < length l → get_or (map f l) i 0 ≡ f (get_or l i 0)
get_d_map = at_map 0 0

-- what stands at slot k once v is stored at slot i
pub get_d_set : (l : List ℕ) (i v k w : ℕ) → i < length l → (k ≡ i → v ≡ w) → (k ≢ i → get_or l k 0 ≡ w) → get_or (set l i v) k 0 ≡ w
get_d_set l i v k w h f g = elim (ℕ_discrete k i) [
  | yes e ↦ rw e (get_or-set_same l i v 0 h) ∙ f e
  | no d ↦ get_or-set_other l i k v 0 d ∙ g d
]

-- where an element stands
pub record Index (l : List ℕ) (x : ℕ) : Type 0 where
  pub i : ℕ
  pub inside : i < length l
  pub is : get_or l i 0 ≡ x

pub in_get_d : {x : ℕ} {l : List ℕ} → Memᴰ x l → Index l x
in_get_d (Memᴰ.head e) = record { i = 0; inside = omega arith; is = sym e }
in_get_d (Memᴰ.tail m) = let k = in_get_d m in record { i = suc k.i; inside = omega (arith, k.inside); is = k.is }

pub rising_lt : {l : List ℕ} → Rising l → (p q : ℕ) → p < q → q < length l → get_or l p 0 < get_or l q 0
rising_lt = at_sorted 0

pub rising_le : {l : List ℕ} → Rising l → (p q : ℕ) → p ≤ q → q < length l → get_or l p 0 ≤ get_or l q 0
rising_le {l} s p q h k = ⊎_elim (λ e. omega (arith, ap (λ (n : ℕ). get_or l n 0) e)) (λ b. omega (arith, rising_lt s p q b k)) (eq-or-lt_of_le h)

-- a statement that holds of each index below i, as a loop over the indices finds it
pub record Below (P : ℕ → Type 0) (i : ℕ) : Type 0 where
  pub at : (j : ℕ) → j < i → P j

pub below_none : {P : ℕ → Type 0} → Below P 0
below_none = record { at = λ j h. absurd (not-suc-le-zero h) }

pub below_more : {P : ℕ → Type 0} {i : ℕ} → Below P i → P i → Below P (i + 1)
below_more {P} {i} b p = record { at = λ j h. elim (ℕ_discrete i j) [ yes e ↦ rw e at p | no n ↦ b.at j (omega arith) ] }

-- the part `&l[i..]` is all that is behind i, and nothing is behind it
pub part_all : (l : List ℕ) (i : ℕ) → take (length l - i) (drop i l) ≡ drop i l
part_all l i = take_all (length l - i) (drop i l) (le_of_eq (length-drop i l))

pub part_last : (l part : List ℕ) (i : ℕ) → take i l ++ (part ++ drop (length l - i) (drop i l)) ≡ take i l ++ part
part_last l part i = rw (drop_of_length-le (drop i l) (le_of_eq (length-drop i l)), append-nil)
