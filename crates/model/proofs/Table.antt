-- Laws of the table of document 02, One: each pattern stands once among all, at the place that its labels give as digits.
use mathlib.Core.Path.{◌≡◌, refl, sym, ap, ap₂, ◌∙◌}
use mathlib.Core.Logic.{⊎_elim}
use mathlib.Core.List.Memᴰ
use mathlib.Core.List.{List, [], ◌∷◌, ◌++◌, map}
use Prim.Native.Nat.{ℕ, zero, suc, ◌+◌, ◌-◌, ◌*◌, ◌/◌, ◌%◌, ◌^◌, ◌≤◌, ◌<◌}
use native.Mathlib.Nat.{eq-or-lt_of_le, le_of_suc-le-suc, not-suc-le-zero, add-mul, mul_assoc, mul_comm, mul-le-mul_right, one-le-pow, pow-succ', div-add-mod', div-lt_iff_lt-mul, mod-lt}
use native.Mathlib.Decide.{dec_lt}
use native.Mathlib.Omega.{arith}
use lib.ListN.{length, get_or, length-append, length-map, get_or-append}
use lib.Seq.{get_or-append-add}
use Rattle.model.specs.Limits.{most_label}
use Rattle.model.specs.Lists.{from}
use Rattle.model.specs.Patterns.{Keyed}
use Rattle.model.specs.Computed.Patterns.{words, keyed_patterns}
use Rattle.model.specs.Computed.Table.{shorter, ordinal_from, place, StandsOnce}
use Rattle.model.proofs.Lists.{length_from_lem, length_spread, at_in, at_spread, at_map, at_from, at_sorted}
use Rattle.model.proofs.Patterns.{Digits, words_out, keyed_rise}

-- ---- the words of m labels

pub length_words : (m : ℕ) → length (words m) ≡ most_label ^ m
unfolding words
length_words zero = refl
length_words (suc m) =
    length_spread 0 [] (λ c. map (λ w. c ∷ w) (words m)) (most_label ^ m) (λ c. length-map (words m) (λ w. c ∷ w) ∙ length_words m) (from 1 most_label)
    ∙ rw (length_from_lem 1 most_label, pow-succ')

-- their first labels are the numbers of 8 ^ m words each
pub words_at : (m i j : ℕ) → i < most_label → j < most_label ^ m → get_or (words (suc m)) (i * most_label ^ m + j) [] ≡ suc i ∷ get_or (words m) j []
unfolding words
words_at m i j h k =
    at_spread 0 [] (λ c. map (λ w. c ∷ w) (words m)) (most_label ^ m) (λ c. length-map (words m) (λ w. c ∷ w) ∙ length_words m) (from 1 most_label) i j
    (omega (arith, length_from_lem 1 most_label)) k
    ∙ ap (λ (c : ℕ). get_or (map (λ w. c ∷ w) (words m)) j []) (at_from 1 most_label i h ∙ omega arith)
    ∙ at_map [] [] (λ w. suc i ∷ w) (words m) j (omega (arith, length_words m))

-- and their last labels count one by one
pub words_last : (m i j : ℕ) → i < most_label ^ m → j < most_label → get_or (words (suc m)) (i * most_label + j) [] ≡ get_or (words m) i [] ++ (suc j ∷ [])
unfolding words
words_last zero i j h k =
    let first : i ≡ 0 = omega arith in
    let same : 0 * most_label + j ≡ j * most_label ^ 0 + 0 = omega arith in
    rw (first, same) (words_at 0 j 0 k (omega arith))
words_last (suc m) i j h k =
    let unit = most_label ^ m in
    let wide : most_label ^ suc m ≡ most_label * unit = pow-succ' most_label m in
    let some : 0 < unit = one-le-pow m most_label (omega arith) in
    let first = i / unit in
    let rest = i % unit in
    let parts : i ≡ first * unit + rest = sym (div-add-mod' i unit) in
    let label : first < most_label = (div-lt_iff_lt-mul some).1 (omega arith) in
    let behind : rest < unit = mod-lt i some in
    let scaled : first * (most_label * unit) ≡ most_label * (first * unit) = sym (mul_assoc first most_label unit) ∙ ap (λ (n : ℕ). n * unit) (mul_comm first most_label) ∙ mul_assoc most_label first unit in
    let same : i * most_label + j ≡ first * most_label ^ suc m + (rest * most_label + j) = rw wide (omega (arith, parts, scaled)) in
    rw same (words_at (suc m) first (rest * most_label + j) label (omega (arith, wide)))
    ∙ ap (λ (w : List ℕ). suc first ∷ w) (words_last m rest j behind k)
    ∙ sym (ap (λ (w : List ℕ). w ++ (suc j ∷ [])) (ap (λ (n : ℕ). get_or (words (suc m)) n []) parts ∙ words_at m first rest label behind))

-- each is a pattern
pub word_keyed : (m i : ℕ) → 1 ≤ m → i < most_label ^ m → Keyed m (get_or (words m) i [])
word_keyed m i h k =
    let (long, labels) = words_out m (get_or (words m) i []) (at_in [] (words m) i (omega (arith, length_words m))) in
    record { long = omega arith; short = omega arith; labels = labels }

-- ---- the labels as digits

-- the digits in front count 8 ^ (digits behind) each
ordinal_from_lem : (a : ℕ) (l : List ℕ) → ordinal_from a l ≡ a * most_label ^ length l + ordinal_from 0 l
unfolding ordinal_from
ordinal_from_lem a [] = omega arith
ordinal_from_lem a (c ∷ l) =
    let unit = most_label ^ length l in
    omega (arith, ordinal_from_lem (a * most_label + (c - 1)) l, ordinal_from_lem (0 + (c - 1)) l, add-mul (a * most_label) (c - 1) unit, mul_assoc a most_label unit, ap (λ (n : ℕ). a * n) (pow-succ' most_label (length l)))

pub ordinal_cons : (c : ℕ) (l : List ℕ) → ordinal_from 0 (c ∷ l) ≡ (c - 1) * most_label ^ length l + ordinal_from 0 l
unfolding ordinal_from
ordinal_cons c l = let none : 0 + (c - 1) ≡ c - 1 = omega arith in rw none (ordinal_from_lem (c - 1) l)

pub ordinal_below : (l : List ℕ) → Digits l → ordinal_from 0 l < most_label ^ length l
unfolding ordinal_from
ordinal_below [] d = omega arith
ordinal_below (c ∷ l) d =
    let digit : c - 1 ≤ most_label - 1 = omega (arith, d c (Memᴰ.head refl)) in
    omega (arith, ordinal_cons c l, ordinal_below l (λ x m. d x (Memᴰ.tail m)), mul-le-mul_right (most_label ^ length l) digit, pow-succ' most_label (length l))

-- and the word that has them stands there
word_at : (l : List ℕ) → Digits l → get_or (words (length l)) (ordinal_from 0 l) [] ≡ l
unfolding words ordinal_from
word_at [] d = refl
word_at (c ∷ l) d =
    let label = d c (Memᴰ.head refl) in
    let behind : Digits l = λ x m. d x (Memᴰ.tail m) in
    let first : suc (c - 1) ≡ c = omega arith in
    rw (ordinal_cons c l) (words_at (length l) (c - 1) (ordinal_from 0 l) (omega arith) (ordinal_below l behind) ∙ ap₂ ◌∷◌ first (word_at l behind))

-- ---- all patterns

longer : (k : ℕ) → length (keyed_patterns (suc k)) ≡ length (keyed_patterns k) + most_label ^ suc k
unfolding keyed_patterns
longer k = length-append (keyed_patterns k) (words (suc k)) ∙ ap (λ (n : ℕ). length (keyed_patterns k) + n) (length_words (suc k))

fewer : (n k : ℕ) → n < k → length (keyed_patterns n) + most_label ^ suc n ≤ length (keyed_patterns k)
fewer n zero h = absurd (not-suc-le-zero h)
fewer n (suc k) h = ⊎_elim (λ e. rw e (omega (arith, longer k))) (λ l. omega (arith, fewer n k l, longer k)) (eq-or-lt_of_le (le_of_suc-le-suc h))

-- behind the shorter ones stand the words of so many labels
pub keyed_at : (k n j : ℕ) → n < k → j < most_label ^ suc n → get_or (keyed_patterns k) (length (keyed_patterns n) + j) [] ≡ get_or (words (suc n)) j []
unfolding keyed_patterns
keyed_at zero n j h q = absurd (not-suc-le-zero h)
keyed_at (suc k) n j h q = ⊎_elim
    (λ e. rw e (get_or-append-add (keyed_patterns k) (words (suc k)) j []))
    (λ l. get_or-append (keyed_patterns k) (words (suc k)) [] (length (keyed_patterns n) + j) (omega (arith, fewer n k l)) ∙ keyed_at k n j l q)
    (eq-or-lt_of_le (le_of_suc-le-suc h))

place_is : (c : ℕ) (l : List ℕ) → place (c ∷ l) ≡ length (keyed_patterns (length l)) + ordinal_from 0 (c ∷ l)
unfolding place shorter
place_is c l = let one_fewer : suc (length l) - 1 ≡ length l = omega arith in rw one_fewer

-- every pattern stands there once, at its place
pub stands : (k : ℕ) (l : List ℕ) → Keyed k l → StandsOnce (keyed_patterns k) l (place l)
stands k [] p = absurd (omega (arith, p.long))
stands k (c ∷ l) p = record {
  inside = inside;
  there = there;
  once = λ j h e. elim (dec_lt j (place (c ∷ l))) [
    | yes a ↦ absurd (omega (arith, rw (e, there) at (at_sorted [] (keyed_rise k) j (place (c ∷ l)) a inside)))
    | no a ↦ elim (dec_lt (place (c ∷ l)) j) [ yes b ↦ absurd (omega (arith, rw (there, e) at (at_sorted [] (keyed_rise k) (place (c ∷ l)) j b h))) | no b ↦ omega arith ]
  ];
}
  where
    small : length l < k
    small = omega (arith, p.short)

    inside : place (c ∷ l) < length (keyed_patterns k)
    inside = omega (arith, place_is c l, fewer (length l) k small, ordinal_below (c ∷ l) p.labels)

    there : get_or (keyed_patterns k) (place (c ∷ l)) [] ≡ c ∷ l
    there =
        rw (place_is c l)
        (keyed_at k (length l) (ordinal_from 0 (c ∷ l)) small (ordinal_below (c ∷ l) p.labels) ∙ word_at (c ∷ l) p.labels)
