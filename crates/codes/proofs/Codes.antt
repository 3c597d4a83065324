-- The test of a code: its digits one by one from the last, and whether they are fewer digits, written twice or more.
use mathlib.Core.Path.{◌≡◌, refl, sym, ap, subst, ◌∙◌}
use mathlib.Core.Bool.{Bool, true, false, ◌&&◌, and-true, and-false, and_assoc}
use mathlib.Core.List.Memᴰ
use mathlib.Core.List.{List, [], ◌∷◌, ◌++◌}
use Prim.Native.Nat.{ℕ, zero, suc, ◌+◌, ◌*◌, ◌-◌, ◌/◌, ◌%◌, ◌^◌, ◌≤◌, ◌<◌}
use native.Mathlib.Nat.{zero-mul, zero-add, suc-mul, mul-le-mul_right, one-le-pow, le-mul_of_pos_right, mod-eq_of_lt, pow-suc, pow-le-pow_right, mod-lt}
use native.Mathlib.Numerals.{add-one}
use native.Mathlib.Decide.{ℕ_discrete, dec_lt}
use native.Mathlib.Omega.{arith}
use lib.Dec.{ltb}
use lib.Pow.{pow-add}
use lib.ListN.{length, take, drop, length-append, length-drop, take-append-drop}
use borrow.Author.Tests.{lt-ltb, le-ltb}
use Rattle.model.specs.Limits.{most_label, digit_unit, code_digits, hub_unit}
use Rattle.model.specs.Patterns.{times, code}
use Rattle.model.specs.Computed.Lists.{all?, within?}
use Rattle.model.specs.Computed.Edges.{label?}
use Rattle.model.specs.Computed.Patterns.{min_repeat, keyed?, own?}
use Rattle.model.specs.Computed.Query.{digits, code?}
use Rattle.model.proofs.Tests.{test_map, test_agree, test_and, test_le, test_lt, test_same, test_false, test_yields, test_fails, both_ways}
use Rattle.model.proofs.Lists.{Below, below_more}
use Rattle.model.proofs.Patterns.{Digits, length_times, times_pos, times_one, min_repeat_lem, test_own, test_keyed}
use Rattle.model.proofs.IndexMemory.{code_some}
use Rattle.model.proofs.Codes.{digits_zero, digits_end, digits_more, digits_short, code_one, code_short, code_end, times_in, written, code_times, written_last, written_more, code_digits_lem}
use Rattle.codes.specs.Codes.{Detects, Repeats, Spelled, Repeatable}

-- ---- labels

-- whether digits are left, as a number
abbrev pub some_of : ℕ → ℕ
some_of rest = (rest + (hub_unit - 1)) / hub_unit

all_last : (f : ℕ → Bool) (l : List ℕ) (x : ℕ) → all? f (l ++ (x ∷ [])) ≡ all? f l && f x
unfolding all?
all_last f [] x = and-true (f x)
all_last f (y ∷ l) x = ap (λ (b : Bool). f y && b) (all_last f l x) ∙ sym (and_assoc (f y) (all? f l) (f x))

-- a digit is a label if it is one of 1 to 8
label_digit : (x : ℕ) → label? ((x + 1) % digit_unit) ≡ ltb (x % digit_unit) most_label
label_digit x = test_agree (test_and (test_le 1 ((x + 1) % digit_unit)) (test_le ((x + 1) % digit_unit) most_label))
    (test_map (λ h. (omega arith, omega arith)) (λ (a, b). omega arith) (test_lt (x % digit_unit) most_label))

module _ (g rest : ℕ) (low : rest < hub_unit) where
  length_step : length (digits (suc g) rest) ≡ some_of rest + length (digits g (rest / digit_unit))
  length_step = elim (ℕ_discrete rest 0) [
    | yes e ↦ rw (e, digits_zero (suc g), digits_zero g) refl
    | no e ↦ rw (digits_more g rest (omega arith)) (omega (arith, length-append (digits g (rest / digit_unit)) (rest % digit_unit ∷ [])))
  ]

  labels_step : all? label? (digits (suc g) rest) ≡ all? label? (digits g (rest / digit_unit)) && ltb ((rest - some_of rest) % digit_unit) most_label
  unfolding all?
  labels_step = elim (ℕ_discrete rest 0) [
    | yes e ↦ rw (e, digits_zero (suc g), digits_zero g) refl
    | no e ↦
        let one : rest - some_of rest ≡ rest - 1 = omega arith in
        let next : rest - 1 + 1 ≡ rest = omega arith in
        rw (digits_more g rest (omega arith), one) (all_last label? (digits g (rest / digit_unit)) (rest % digit_unit)
        ∙ ap (λ (b : Bool). all? label? (digits g (rest / digit_unit)) && b) (rw next at (label_digit (rest - 1))))
  ]

-- of the last digits n are there, all labels, and those of the rest, at most f, decide
pub record Left (longest c n f rest : ℕ) : Type 0 where
  pub count : n + f ≤ code_digits
  pub low : rest < hub_unit
  pub same : keyed? longest (digits code_digits c) ≡ within? 1 longest (n + length (digits f rest)) && all? label? (digits f rest)

pub left_start : (longest c : ℕ) → c < hub_unit → Left longest c 0 code_digits c
unfolding keyed?
left_start longest c h =
    let size : 0 + length (digits code_digits c) ≡ length (digits code_digits c) = omega arith in
    record { count = omega arith; low = h; same = rw size refl }

-- one digit more is looked at
left_step : {longest c n f rest : ℕ} → Left longest c n f rest → 1 ≤ f → (b : Bool) → ltb ((rest - some_of rest) % digit_unit) most_label ≡ b
    → keyed? longest (digits code_digits c)
    ≡ within? 1 longest (n + some_of rest + length (digits (f - 1) (rest / digit_unit))) && (all? label? (digits (f - 1) (rest / digit_unit)) && b)
left_step {f = zero} m h b t = absurd (omega arith)
left_step {n = n} {f = suc g} {rest = rest} m h b t =
    let one : suc g - 1 ≡ g = omega arith in
    let size : n + length (digits (suc g) rest) ≡ n + some_of rest + length (digits g (rest / digit_unit)) = omega (arith, length_step g rest m.low) in
    rw one (m.same ∙ rw (size, labels_step g rest m.low, t) refl)

module _ {longest c n f rest : ℕ} (m : Left longest c n f rest) where
  pub left_more : 1 ≤ f → (rest - some_of rest) % digit_unit < most_label → Left longest c (n + some_of rest) (f - 1) (rest / digit_unit)
  left_more h t = record {
    count = omega (arith, m.count, m.low);
    low = omega (arith, m.low);
    same = left_step m h true (lt-ltb _ _ t) ∙ rw (and-true (all? label? (digits (f - 1) (rest / digit_unit)))) refl;
  }

  pub left_other : 1 ≤ f → most_label ≤ (rest - some_of rest) % digit_unit → false ≡ keyed? longest (digits code_digits c)
  left_other h t = sym (left_step m h false (le-ltb _ _ t)
      ∙ rw (and-false (all? label? (digits (f - 1) (rest / digit_unit)))) (and-false (within? 1 longest (n + some_of rest + length (digits (f - 1) (rest / digit_unit))))))

  pub left_end : f ≡ 0 → keyed? longest (digits code_digits c) ≡ within? 1 longest n
  unfolding all?
  left_end e =
      let size : n + length (digits f rest) ≡ n = rw (e, digits_end rest) (omega arith) in
      let labels : all? label? (digits f rest) ≡ true = rw (e, digits_end rest) refl in
      m.same ∙ rw (size, labels) (and-true _)

-- ---- fewer digits, written twice or more

-- c comes among the writings that remain, the next of which has `size` digits
pub record Remaining (c d unit last word size : ℕ) : Type 0 where
  pub n : ℕ
  pub fits : size + n * d ≤ code_digits
  pub is : written unit last word (suc n) ≡ c

module _ {c d unit last word size : ℕ} where
  remaining_here : size ≤ code_digits → word * unit + last ≡ c → Remaining c d unit last word size
  unfolding written
  remaining_here h e = record { n = 0; fits = omega arith; is = e }

  remaining_back : Remaining c d unit last (word * unit + last) (size + d) → Remaining c d unit last word size
  unfolding written
  remaining_back r = record { n = suc r.n; fits = omega (arith, r.fits, suc-mul r.n d); is = r.is }

  remaining_later : ¬ (word * unit + last ≡ c) → Remaining c d unit last word size → Remaining c d unit last (word * unit + last) (size + d)
  unfolding written
  remaining_later m r = go r.n r.fits r.is
    where
      go : (n : ℕ) → size + n * d ≤ code_digits → written unit last word (suc n) ≡ c → Remaining c d unit last (word * unit + last) (size + d)
      go zero h e = absurd (m e)
      go (suc n) h e = record { n = n; fits = omega (arith, suc-mul n d); is = e }

-- a word of d labels that is written n + 2 times
module _ {d : ℕ} (n : ℕ) (w : List ℕ) (long : length w ≡ d) where
  size_times : length (times (suc (suc n)) w) ≡ d + d + n * d
  size_times = omega (arith, rw long at (length_times (suc (suc n)) w), suc-mul (suc n) d, suc-mul n d)

  written_times : code (times (suc (suc n)) w) ≡ written (digit_unit ^ d) (code w) (code w) (suc n)
  unfolding written
  written_times =
      code_times (suc (suc n)) 0 w
      ∙ rw (zero-mul (digit_unit ^ length w), zero-add (code w)) (ap (λ (m : ℕ). written (digit_unit ^ m) (code w) (code w) (suc n)) long)

-- a code spelled by labels, and its last d digits
module _ (c d : ℕ) (s : Spelled c) where
  abbrev l : List ℕ
  l = digits code_digits c

  abbrev unit : ℕ
  unit = digit_unit ^ d

  spelled : code l ≡ c
  spelled = code_digits_lem code_digits c s.below

  some : 1 ≤ c
  some = omega (arith, spelled, code_some l s.keyed)

  repeats_there : Repeats l d → Remaining c d unit (c % unit) (c % unit) (d + d)
  unfolding times
  repeats_there r =
      let w = r.word in
      let labels : Digits w = λ x m. s.keyed.labels x (rw r.is at (Memᴰ.append_left (times (suc r.n) w) m)) in
      let is : written unit (code w) (code w) (suc r.n) ≡ c = sym (written_times r.n w r.long) ∙ ap code r.is ∙ spelled in
      let last : c % unit ≡ code w = ap (λ (m : ℕ). m % unit) (sym is) ∙ written_last unit (code w) (code w) r.n (rw r.long at (code_short w labels)) in
      record { n = r.n; fits = omega (arith, s.keyed.short, ap length r.is, size_times r.n w r.long); is = rw last is }

  repeats_back : Remaining c d unit (c % unit) (c % unit) (d + d) → Repeats l d
  unfolding written
  repeats_back r = elim (dec_lt d (length l)) [
    | yes h ↦
        let w = drop (length l - d) l in
        let long : length w ≡ d = omega (arith, length-drop (length l - d) l) in
        let whole = take-append-drop (length l - d) l in
        let labels : Digits w = λ x m. s.keyed.labels x (rw whole at (Memᴰ.append_right (take (length l - d) l) m)) in
        let last : c % unit ≡ code w = rw (long, whole, spelled) at (code_end (take (length l - d) l) w labels) in
        record {
          word = w;
          n = r.n;
          long = long;
          is = code_one (omega (arith, r.fits, size_times r.n w long)) s.keyed.short (λ x m. labels x (times_in (suc (suc r.n)) m)) s.keyed.labels
              (written_times r.n w long ∙ subst (λ (m : ℕ). written unit m m (suc r.n) ≡ c) last r.is ∙ sym spelled);
        }
    | no h ↦
        let one : 1 ≤ unit = one-le-pow d digit_unit (omega arith) in
        let below : c < unit = omega (arith, code_short l s.keyed.labels, spelled, pow-le-pow_right {n = digit_unit} (omega arith) {i = length l} {j = d} (omega arith)) in
        let again : written unit c (c * unit + c) r.n ≡ c = subst (λ (m : ℕ). written unit m m (suc r.n) ≡ c) (mod-eq_of_lt below) r.is in
        absurd (omega (arith, again, written_more unit c (c * unit + c) r.n one, le-mul_of_pos_right c one, some))
  ]

-- the writings that remain decide
pub record Trying (c d unit word size : ℕ) : Type 0 where
  pub there : Repeats (digits code_digits c) d → Remaining c d unit (c % unit) word size
  pub back : Remaining c d unit (c % unit) word size → Repeats (digits code_digits c) d
  pub small : suc word * unit ≤ digit_unit ^ size

module _ {c d unit : ℕ} (p : Repeatable c d unit) where
  pub unit_some : 1 ≤ unit
  unit_some = rw p.is (one-le-pow d digit_unit (omega arith))

  -- d digits more
  higher : (size : ℕ) {m : ℕ} → m ≤ digit_unit ^ size → m * unit ≤ digit_unit ^ (size + d)
  higher size h = rw (pow-add digit_unit size d, ← p.is) (mul-le-mul_right unit h)

  pub trying_start : Trying c d unit (c % unit) (d + d)
  trying_start = record {
    there = rw p.is (repeats_there c d p.spelled);
    back = rw p.is (repeats_back c d p.spelled);
    small = higher d (omega (arith, p.is, mod-lt c unit_some));
  }

  module _ {word size : ℕ} (m : Trying c d unit word size) where
    next_small : word * unit + c % unit < digit_unit ^ size
    next_small = omega (arith, m.small, suc-mul word unit, mod-lt c unit_some)

    pub trying_fits : size ≤ code_digits → word * unit + c % unit < hub_unit
    trying_fits h = omega (arith, next_small, pow-le-pow_right {n = digit_unit} (omega arith) h)

    pub trying_found : size ≤ code_digits → word * unit + c % unit ≡ c → Detects (Repeats (digits code_digits c) d) true
    trying_found h e = record { yields = λ _. m.back (remaining_here h e); misses = λ e. absurd (let z : ◌≡◌ {A = ℕ} 0 1 = cc in omega arith) }

    pub trying_more : ¬ (word * unit + c % unit ≡ c) → Trying c d unit (word * unit + c % unit) (size + d)
    trying_more e = record { there = λ r. remaining_later e (m.there r); back = λ r. m.back (remaining_back r); small = higher size next_small }

    pub trying_none : code_digits < size → Detects (Repeats (digits code_digits c) d) false
    trying_none h = record {
      yields = λ e. absurd (let z : ◌≡◌ {A = ℕ} 0 1 = cc in omega arith);
      misses = λ _ r. let k = m.there r in omega (arith, k.fits);
    }

-- ---- which words repeat

module _ {l : List ℕ} (some : 1 ≤ length l) where
  repeats_within : {d : ℕ} → Repeats l d → d + d ≤ length l
  repeats_within r = omega (arith, ap length r.is, size_times r.n r.word r.long)

  pub repeats_own : {d : ℕ} → Repeats l d → 1 ≤ d → own? l ≡ false
  repeats_own r h = test_false (test_own l some) (λ o. omega (arith, o.least r.word (suc (suc r.n)) r.is, r.long, repeats_within r))

  own_repeats : own? l ≡ false → (d : ℕ) × (1 ≤ d) × Repeats l d
  unfolding own?
  own_repeats e = let (j, q) = (min_repeat_lem l some).often in go j (min_repeat l) q (test_fails (test_same (min_repeat l) l) e)
    where
      go : (j : ℕ) (w : List ℕ) → times j w ≡ l → ¬ (w ≡ l) → (d : ℕ) × (1 ≤ d) × Repeats l d
      go zero w q n = absurd (omega (arith, ap length q, length_times 0 w))
      go (suc zero) w q n = absurd (n (sym (times_one w) ∙ q))
      go (suc (suc j)) w q n = (length w, times_pos (suc (suc j)) w l q some, record { word = w; n = j; long = refl; is = q })

-- no number of digits below d repeats; d digits count up to unit
pub record Unrepeated (c d unit : ℕ) : Type 0 where
  pub some : 1 ≤ d
  pub small : d ≤ code_digits
  pub is : unit ≡ digit_unit ^ d
  pub none : Below (λ e. 1 ≤ e → ¬ Repeats (digits code_digits c) e) d

pub unrepeated_start : (c : ℕ) → Unrepeated c 1 digit_unit
unrepeated_start c = record { some = omega arith; small = omega arith; is = refl; none = record { at = λ e h k. absurd (omega arith) } }

module _ {c d unit : ℕ} (m : Unrepeated c d unit) where
  pub unrepeated_small : unit ≤ hub_unit
  unrepeated_small = rw m.is (pow-le-pow_right {n = digit_unit} (omega arith) m.small)

  pub unrepeated_more : d + d ≤ code_digits → ¬ Repeats (digits code_digits c) d → Unrepeated c (d + 1) (unit * digit_unit)
  unrepeated_more h n = record {
    some = omega arith;
    small = omega (arith, m.some);
    is = rw (m.is, add-one d) (sym (pow-suc digit_unit d));
    none = below_more m.none (λ _. n);
  }

  pub unrepeated_end : code_digits < d + d → Spelled c → own? (digits code_digits c) ≡ true
  unrepeated_end h s = both_ways (own? (digits code_digits c)) (λ e. e) (λ e.
      let (n, some, r) = own_repeats s.keyed.long e in
      absurd (m.none.at n (omega (arith, repeats_within s.keyed.long r, s.keyed.short)) some r))

-- ---- the whole test

pub code_is : (longest c : ℕ) (b : Bool) → keyed? longest (digits code_digits c) ≡ b → code? longest c ≡ b && own? (digits code_digits c)
unfolding code?
code_is longest c b e = rw e refl

pub spelled_by : (longest : ℕ) {c : ℕ} → c < hub_unit → keyed? longest (digits code_digits c) ≡ true → Spelled c
spelled_by longest {c} h e =
    let p = test_yields (test_keyed longest (digits code_digits c)) e in
    record { below = h; keyed = record { long = p.long; short = digits_short code_digits c; labels = p.labels } }
