-- Laws of patterns: the minimum repeat exists, is one, and is a pattern again; the patterns as a list, by rising code.
use mathlib.Core.Path.{◌≡◌, refl, sym, ap, ◌∙◌}
use mathlib.Core.Logic.{⊎_elim}
use mathlib.Core.Bool.{Bool, true, false}
use mathlib.Core.List.Memᴰ
use mathlib.Core.List.{List, [], ◌∷◌, ◌++◌, map, append-nil, append_assoc, Memᴰ}
use Prim.Native.Nat.{ℕ, zero, suc, ◌+◌, ◌-◌, ◌*◌, ◌/◌, ◌^◌, ◌≤◌, ◌<◌}
use native.Mathlib.Nat.{mul-div_cancel, eq-or-lt_of_le, le_trans, mul-le-mul_right, le-mul_of_pos_right, one-le-pow, mul_assoc, pow-succ', lt_of_lt_of_le, le_of_suc-le-suc, not-suc-le-zero, zero-add}
use native.Mathlib.Omega.{arith}
use lib.ListN.{length, take, drop, length-take, length-append, take-append-drop}
use lib.Seq.{take-append_seam}
use Rattle.model.specs.Limits.{hub_unit, most_longest, most_label}
use Rattle.model.specs.Lists.{◌∈◌, from, Sorted, none, next}
use Rattle.model.specs.Patterns.{times, Keyed, MinRepeat, Pattern, code_from, code}
use Rattle.model.specs.Computed.Patterns.{keyed?, repeat_from, min_repeat, folded_length, times_written, once?, Folds, own?, words, keyed_patterns, patterns}
use Rattle.model.proofs.Tests.{Tests, test_map, test_and, test_le, test_all, test_same, test_eq, test_true, test_false, by_test}
use Rattle.model.proofs.Lists.{keep_in, keep_out, from_in, from_out, rising_from, spread_in, spread_out, sorted_keep, sorted_imp, sorted_append, sorted_map, sorted_spread}

-- check 11 tests what it should
pub test_keyed : (k : ℕ) (l : List ℕ) → Tests (keyed? k l) (Keyed k l)
unfolding keyed?
test_keyed k l = test_map (λ (h, f). record { long = h.0; short = h.1; labels = f }) (λ p. ((p.long, p.short), p.labels))
    (test_and (test_and (test_le 1 (length l)) (test_le (length l) k)) (test_all (λ c. test_and (test_le 1 c) (test_le c 8)) l))

abbrev pub Digits : List ℕ → Type 0
Digits l = (c : ℕ) → c ∈ l → (1 ≤ c) × (c ≤ most_label)

pub code_lt : (k a b : ℕ) (l : List ℕ) → length l ≤ k → Digits l → a < b → code_from a l < b * 16 ^ k
unfolding code_from
code_lt k a b [] h d q = lt_of_lt_of_le q (le-mul_of_pos_right b (one-le-pow k 16 (omega arith)))
code_lt zero a b (c ∷ l) h d q = absurd (not-suc-le-zero h)
code_lt (suc k) a b (c ∷ l) h d q =
    let e = d c (Memᴰ.head refl) in
    rw (pow-succ', ← mul_assoc) (code_lt k (a * 16 + c) (b * 16) l (le_of_suc-le-suc h) (λ x m. d x (Memᴰ.tail m)) (omega arith))

pub code_ge : (a : ℕ) (l : List ℕ) → a ≤ code_from a l
unfolding code_from
code_ge a [] = omega arith
code_ge a (c ∷ l) = omega (arith, code_ge (a * 16 + c) l)

pub code_below : {k : ℕ} {l : List ℕ} → k ≤ most_longest → Keyed k l → code l < hub_unit
code_below {k} {l} h p = omega (arith, code_lt most_longest 0 1 l (omega (arith, p.short)) p.labels (omega arith))

infix 50 ◌∈ˡ◌
abbrev ◌∈ˡ◌ : List ℕ → List (List ℕ) → Type 0
l ∈ˡ ls = Memᴰ l ls

pub length_times : (j : ℕ) (m : List ℕ) → length (times j m) ≡ j * length m
unfolding times
length_times zero m = omega arith
length_times (suc j) m = omega (arith, length-append m (times j m), length_times j m)

-- the last writing stands behind the others
pub times_last : (j : ℕ) (m : List ℕ) → times j m ++ m ≡ m ++ times j m
unfolding times
times_last zero m = sym (append-nil m)
times_last (suc j) m = append_assoc m (times j m) m ∙ ap (λ (l : List ℕ). m ++ l) (times_last j m)

pub times_pos : (j : ℕ) (m l : List ℕ) → times j m ≡ l → 1 ≤ length l → 1 ≤ length m
times_pos j [] l e h = absurd (omega (arith, ap length e, length_times j []))
times_pos j (c ∷ m) l e h = omega arith

-- a word that gives l is its front, and the length of l says how often
times_front : (j : ℕ) (m l : List ℕ) → times j m ≡ l → 1 ≤ length l → take (length m) l ≡ m
unfolding times
times_front zero m l e h = absurd (omega (arith, ap length e))
times_front (suc j) m l e h = rw (← e) (take-append_seam m (times j m))

pub times_back : (j : ℕ) (m l : List ℕ) → times j m ≡ l → 1 ≤ length l → times (length l / length m) (take (length m) l) ≡ l
times_back j m l e h =
    let long : length l ≡ j * length m = sym (ap length e) ∙ length_times j m in
    let often : length l / length m ≡ j = rw long (mul-div_cancel j (times_pos j m l e h)) in
    rw (often, times_front j m l e h) e

pub times_one : (l : List ℕ) → times 1 l ≡ l
unfolding times
times_one l = append-nil l

repeat_min : (f d : ℕ) (l : List ℕ) → 1 ≤ length l → f + d ≡ suc (length l) → ((w : List ℕ) (j : ℕ) → times j w ≡ l → d ≤ length w) → MinRepeat l (repeat_from f d l)
unfolding repeat_from
repeat_min zero d l h e inv = record { often = (1, times_one l); least = λ w j k. omega (arith, inv w j k) }
repeat_min (suc f) d l h e inv = by_test (λ m. MinRepeat l m) (test_same (times (length l / d) (take d l)) l)
    (λ q. record { often = (length l / d, q); least = λ w j k. omega (arith, length-take d l, inv w j k) })
    (λ n. repeat_min f (suc d) l h (omega arith) (λ w j k. ⊎_elim
    (λ same. absurd (n (rw same (times_back j w l k h)))) (λ more. more) (eq-or-lt_of_le (inv w j k))))

pub min_repeat_lem : (l : List ℕ) → 1 ≤ length l → MinRepeat l (min_repeat l)
unfolding min_repeat
min_repeat_lem l h = repeat_min (length l) 1 l h (omega arith) (λ w j e. times_pos j w l e h)

-- there is one minimum repeat
pub min_repeat_unique : (l m : List ℕ) → 1 ≤ length l → MinRepeat l m → min_repeat l ≡ m
min_repeat_unique l m h r =
    let q = min_repeat_lem l h in
    let a = q.often.1 in
    let b = r.often.1 in
    let same : length (min_repeat l) ≡ length m = omega (arith, q.least m _ b, r.least (min_repeat l) _ a) in
    sym (times_front _ _ l a h) ∙ rw same (times_front _ m l b h)

-- the minimum repeat is the front of the pattern
pub repeat_front : (l : List ℕ) → 1 ≤ length l → take (length (min_repeat l)) l ≡ min_repeat l
repeat_front l h = let (j, e) = (min_repeat_lem l h).often in times_front j (min_repeat l) l e h

pub repeat_long : (l : List ℕ) → 1 ≤ length l → 1 ≤ length (min_repeat l)
repeat_long l h = let (j, e) = (min_repeat_lem l h).often in times_pos j (min_repeat l) l e h

pub repeat_short : (l : List ℕ) → 1 ≤ length l → length (min_repeat l) ≤ length l
repeat_short l h = (min_repeat_lem l h).least l 1 (times_one l)

times_add : (i j : ℕ) (l : List ℕ) → times i l ++ times j l ≡ times (i + j) l
unfolding times
times_add zero j l = ap (λ (n : ℕ). times n l) (sym (zero-add j))
times_add (suc i) j l = let e : suc (i + j) ≡ suc i + j = omega arith in
    append_assoc l (times i l) (times j l) ∙ ap (λ (m : List ℕ). l ++ m) (times_add i j l) ∙ ap (λ (n : ℕ). times n l) e

times_times : (i j : ℕ) (l : List ℕ) → times i (times j l) ≡ times (i * j) l
unfolding times
times_times zero j l = let e : 0 ≡ 0 * j = omega arith in ap (λ (n : ℕ). times n l) e
times_times (suc i) j l = let e : j + i * j ≡ suc i * j = omega arith in
    ap (λ (m : List ℕ). times j l ++ m) (times_times i j l) ∙ times_add j (i * j) l ∙ ap (λ (n : ℕ). times n l) e

-- and is its own minimum repeat
pub repeat_own : (l : List ℕ) → 1 ≤ length l → MinRepeat (min_repeat l) (min_repeat l)
repeat_own l h = record {
  often = (1, times_one (min_repeat l));
  least = λ w j e. let (i, q) = (min_repeat_lem l h).often in
      (min_repeat_lem l h).least w (i * j) (sym (times_times i j w) ∙ ap (times i) e ∙ q);
}

pub keyed_up : {k m : ℕ} {l : List ℕ} → k ≤ m → Keyed k l → Keyed m l
keyed_up h p = record { long = p.long; short = omega (arith, p.short); labels = p.labels }

-- what the folding leaf gives of a pattern
pub folded_length_lem : (l : List ℕ) → Keyed most_longest l → folded_length l ≡ length (min_repeat l)
unfolding folded_length
folded_length_lem l p = rw (test_true (test_keyed most_longest l) p)

pub folded_take : (l : List ℕ) → Keyed most_longest l → take (folded_length l) l ≡ min_repeat l
folded_take l p = ap (λ (n : ℕ). take n l) (folded_length_lem l p) ∙ repeat_front l p.long

-- and how often it was written
pub times_written_lem : (l : List ℕ) → Keyed most_longest l → times_written l ≡ length l / length (min_repeat l)
unfolding times_written
times_written_lem l p = rw (test_true (test_keyed most_longest l) p)

-- written so often, and not otherwise, the minimum repeat gives the pattern
pub written_gives : (l : List ℕ) → Keyed most_longest l → times (times_written l) (min_repeat l) ≡ l
written_gives l p =
    let (j, e) = (min_repeat_lem l p.long).often in
    rw (times_written_lem l p) (rw (repeat_front l p.long) at (times_back j (min_repeat l) l e p.long))

pub written_is : (l : List ℕ) → Keyed most_longest l → (j : ℕ) → times j (min_repeat l) ≡ l → j ≡ times_written l
written_is l p j e =
    let long : length l ≡ j * length (min_repeat l) = sym (ap length e) ∙ length_times j (min_repeat l) in
    sym (times_written_lem l p ∙ rw long (mul-div_cancel j (repeat_long l p.long)))

-- it is written once exactly if the pattern is its own minimum repeat
pub test_once : (l : List ℕ) → Keyed most_longest l → Tests (once? l) (MinRepeat l l)
unfolding once?
test_once l p = test_map
    (λ e. let same : min_repeat l ≡ l = sym (times_one (min_repeat l)) ∙ rw e at (written_gives l p) in rw same at (min_repeat_lem l p.long))
    (λ o. let same : min_repeat l ≡ l = min_repeat_unique l l p.long o in sym (written_is l p 1 (times_one (min_repeat l) ∙ same)))
    (test_eq (times_written l) 1)

-- as a count tells it
pub count_once : (l : List ℕ) {n : ℕ} → n ≡ times_written l → n ≡ 1 → once? l ≡ true
unfolding once?
count_once l e q = test_true (test_eq (times_written l) 1) (sym e ∙ q)

pub count_more : (l : List ℕ) {n : ℕ} → n ≡ times_written l → ¬ (n ≡ 1) → once? l ≡ false
unfolding once?
count_more l e d = test_false (test_eq (times_written l) 1) (λ q. d (e ∙ q))

-- the length and the count are all that the folding promises
pub folds : {l : List ℕ} {n j : ℕ} → (n ≡ folded_length l) × (j ≡ times_written l) → Folds l n j
folds {l} (e, q) = record {
  is = e;
  often = q;
  labels = λ p. rw e (folded_take l p);
  gives = λ p. rw (e, q, folded_take l p) (written_gives l p);
}

take_in : (n : ℕ) {x : ℕ} (l : List ℕ) → x ∈ take n l → x ∈ l
take_in n {x} l m = rw (take-append-drop n l) at (Memᴰ.append_left (drop n l) m)

-- the minimum repeat of a pattern is a pattern of the index
pub folded : {k : ℕ} {l : List ℕ} → Keyed k l → Pattern k (min_repeat l)
folded {k} {l} p = record {
  keyed = record {
    long = repeat_long l p.long;
    short = omega (arith, repeat_short l p.long, p.short);
    labels = λ c m. p.labels c (take_in (length (min_repeat l)) l (rw (← (repeat_front l p.long)) at m));
  };
  own = repeat_own l p.long;
}

-- so what is folded has at most four labels
pub folded_short : (l : List ℕ) → folded_length l ≤ most_longest
unfolding folded_length
folded_short l = by_test (λ (n : ℕ). n ≤ most_longest) (test_keyed most_longest l) (λ k. (folded k).keyed.short) (λ _. omega arith)

pub written_short : (l : List ℕ) → times_written l ≤ most_longest
written_short l = go (keyed? most_longest l) refl
  where
    go : (b : Bool) → keyed? most_longest l ≡ b → times_written l ≤ most_longest
    go true e =
        let p = (test_keyed most_longest l).yields (rw e tt) in
        let most = le-mul_of_pos_right (times_written l) (repeat_long l p.long) in
        omega (arith, most, sym (length_times (times_written l) (min_repeat l)) ∙ ap length (written_gives l p), p.short)
    go false e = unfold times_written in rw e (omega arith)

pub test_own : (l : List ℕ) → 1 ≤ length l → Tests (own? l) (MinRepeat l l)
unfolding own?
test_own l h = record {
  yields = λ t. rw ((test_same (min_repeat l) l).yields t) at (min_repeat_lem l h);
  passes = λ o. (test_same (min_repeat l) l).passes (min_repeat_unique l l h o);
}

words_in : (l : List ℕ) → Digits l → l ∈ˡ words (length l)
unfolding words
words_in [] d = Memᴰ.head refl
words_in (c ∷ l) d = spread_in _ (from_in 1 8 c (d c (Memᴰ.head refl)).0 (omega (arith, d c (Memᴰ.head refl)))) (Memᴰ.map (λ w. c ∷ w) (words_in l (λ x m. d x (Memᴰ.tail m))))

pub words_out : (m : ℕ) (l : List ℕ) → l ∈ˡ words m → (length l ≡ m) × Digits l
unfolding words
words_out zero l h = rw (Memᴰ.eq_of_singleton h) (refl, λ c k. absurd (Memᴰ.not-nil k))
words_out (suc m) l h =
    let (c, i, j) = spread_out (λ c. map (λ w. c ∷ w) (words m)) (from 1 8) h in
    let (w, k, e) = Memᴰ.of_map (λ w. c ∷ w) (words m) j in
    let (u, v) = words_out m w k in
    rw (← e) (ap suc u, λ x q. ⊎_elim (λ e. omega (arith, from_out 1 8 c i)) (λ r. v x r) (Memᴰ.cases_cons q))

-- all patterns of 1 to k labels, and no other words
pub keyed_in : (k : ℕ) {l : List ℕ} → Keyed k l → l ∈ˡ keyed_patterns k
unfolding keyed_patterns
keyed_in zero p = absurd (omega (arith, p.long, p.short))
keyed_in (suc k) {l} p = ⊎_elim
    (λ e. Memᴰ.append_right (keyed_patterns k) (rw e at (words_in l p.labels)))
    (λ h. Memᴰ.append_left _ (keyed_in k (record { long = p.long; short = le_of_suc-le-suc h; labels = p.labels })))
    (eq-or-lt_of_le p.short)

pub keyed_out : (k : ℕ) {l : List ℕ} → l ∈ˡ keyed_patterns k → Keyed k l
unfolding keyed_patterns
keyed_out zero h = absurd (Memᴰ.not-nil h)
keyed_out (suc k) {l} h = ⊎_elim
    (λ m. keyed_up (omega arith) (keyed_out k m))
    (λ m. let (e, d) = words_out (suc k) l m in record { long = omega arith; short = omega arith; labels = d })
    (Memᴰ.append_cases (keyed_patterns k) h)

pub patterns_in : (k : ℕ) {l : List ℕ} → Pattern k l → l ∈ˡ patterns k
unfolding patterns
patterns_in k {l} p = keep_in own? (keyed_in k p.keyed) ((test_own l p.keyed.long).passes p.own)

pub patterns_out : (k : ℕ) {l : List ℕ} → l ∈ˡ patterns k → Pattern k l
unfolding patterns
patterns_out k {l} h =
    let (m, t) = keep_out own? (keyed_patterns k) h in
    let p = keyed_out k m in
    record { keyed = p; own = (test_own l p.long).yields t }

-- the codes rise
code_low : (a : ℕ) (l : List ℕ) → a * 16 ^ length l ≤ code_from a l
unfolding code_from
code_low a [] = omega arith
code_low a (c ∷ l) = le_trans (rw (pow-succ', ← mul_assoc) (mul-le-mul_right (16 ^ length l) (omega arith))) (code_low (a * 16 + c) l)

words_rise : (m : ℕ) → Sorted (λ v w. (a : ℕ) → code_from a v < code_from a w) (words m)
unfolding words code_from
words_rise zero = next (λ z h. absurd (Memᴰ.not-nil h)) none
words_rise (suc m) = sorted_spread (λ c. map (λ w. c ∷ w) (words m)) (rising_from 1 8)
    (λ c _. sorted_map (λ w. c ∷ w) (λ v w h a. h (a * 16 + c)) (words_rise m))
    (λ c d v w h _ _ i j a.
    let (v', i', e) = Memᴰ.of_map (λ w. c ∷ w) (words m) i in
    let (w', j', f) = Memᴰ.of_map (λ w. d ∷ w) (words m) j in
    let (p, q) = words_out m v' i' in
    let (r, _) = words_out m w' j' in
    rw (← e, ← f) (lt_of_lt_of_le (code_lt m (a * 16 + c) (a * 16 + d) v' (omega arith) q (omega arith)) (rw r at (code_low (a * 16 + d) w'))))

code_high : (k : ℕ) (m : List ℕ) → length m ≡ suc k → Digits m → 1 * 16 ^ k ≤ code m
unfolding code_from
code_high k [] e d = absurd (omega arith)
code_high k (c ∷ m) e d =
    let h = d c (Memᴰ.head refl) in
    let long : length m ≡ k = omega arith in
    le_trans (mul-le-mul_right {m = 1} {n = 0 * 16 + c} (16 ^ k) (omega arith)) (rw long at (code_low (0 * 16 + c) m))

-- a shorter pattern has the lesser code
pub shorter_code : (l m : List ℕ) → Digits l → Digits m → length l < length m → code l < code m
shorter_code l m d e h =
    let long : length m ≡ suc (length m - 1) = omega arith in
    lt_of_lt_of_le (code_lt (length m - 1) 0 1 l (omega arith) d (omega arith)) (code_high (length m - 1) m long e)

pub keyed_rise : (k : ℕ) → Sorted (λ l m. code l < code m) (keyed_patterns k)
unfolding keyed_patterns
keyed_rise zero = none
keyed_rise (suc k) = sorted_append (keyed_rise k) (sorted_imp (λ l m h. h 0) (words_rise (suc k))) (λ l m i j.
    let p = keyed_out k i in
    let (e, d) = words_out (suc k) m j in
    shorter_code l m p.labels d (omega (arith, p.short)))

pub patterns_rise : (k : ℕ) → Sorted (λ l m. code l < code m) (patterns k)
unfolding patterns
patterns_rise k = sorted_keep own? (keyed_rise k)
