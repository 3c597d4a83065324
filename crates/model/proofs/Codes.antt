-- Codes by their digits: the digits of a pattern's code are the pattern, and the code of a number's digits is the number; the code of a word
-- behind another, and of a word written several times. So check 12's test of a code lets pass the codes of the patterns that an index has, and
-- no other number.
use mathlib.Core.Path.{◌≡◌, refl, sym, ap, ◌∙◌}
use mathlib.Core.Logic.{⊎_elim}
use mathlib.Core.Bool.{◌&&◌}
use mathlib.Core.List.Memᴰ
use mathlib.Core.List.{List, [], ◌∷◌, ◌++◌, append_assoc, append-nil}
use Prim.Native.Nat.{ℕ, zero, suc, ◌+◌, ◌*◌, ◌-◌, ◌/◌, ◌%◌, ◌^◌, ◌≤◌, ◌<◌}
use native.Mathlib.Nat.{add-mul, mul_assoc, pow-succ', mul-add-mod_self_right, mod-eq_of_lt, le-mul_of_pos_right, le_trans}
use native.Mathlib.Decide.{ℕ_discrete}
use native.Mathlib.Omega.{arith}
use lib.Dec.{T}
use lib.ListN.{length, length-append}
use Rattle.model.specs.Limits.{most_longest, digit_unit, code_digits, hub_unit}
use Rattle.model.specs.Lists.{◌∈◌}
use Rattle.model.specs.Patterns.{times, Pattern, code_from, code}
use Rattle.model.specs.Query.{Coded}
use Rattle.model.specs.Computed.Patterns.{keyed?, own?}
use Rattle.model.specs.Computed.Query.{digits, code?}
use Rattle.model.proofs.Tests.{Tests, test_and, test_T}
use Rattle.model.proofs.Patterns.{Digits, code_lt, test_keyed, test_own}
use Rattle.model.proofs.Zeros.{not_zero}

-- ---- digit by digit, from the last

pub digits_zero : (n : ℕ) → digits n 0 ≡ []
unfolding digits
digits_zero zero = refl
digits_zero (suc n) = refl

pub digits_end : (x : ℕ) → digits 0 x ≡ []
unfolding digits
digits_end x = refl

pub digits_more : (n x : ℕ) → 1 ≤ x → digits (suc n) x ≡ digits n (x / digit_unit) ++ (x % digit_unit ∷ [])
unfolding digits
digits_more n x h = rw (not_zero x h) refl

pub digits_short : (n x : ℕ) → length (digits n x) ≤ n
digits_short zero x = rw (digits_end x) (omega arith)
digits_short (suc n) x = elim (ℕ_discrete x 0) [
  | yes e ↦ rw (e, digits_zero (suc n)) (omega arith)
  | no e ↦ rw (digits_more n x (omega arith)) (omega (arith, length-append (digits n (x / digit_unit)) (x % digit_unit ∷ []), digits_short n (x / digit_unit)))
]

-- ---- the digits of the code of a pattern are the pattern

digits_from : (n a : ℕ) (l : List ℕ) (m : ℕ) → m ≡ n + length l → Digits l → digits m (code_from a l) ≡ digits n a ++ l
unfolding code_from
digits_from n a [] m e d = let q : m ≡ n = omega arith in rw q (sym (append-nil (digits n a)))
digits_from n a (c ∷ l) m e d =
    let h = d c (Memᴰ.head refl) in
    let q : (a * digit_unit + c) / digit_unit ≡ a = omega arith in
    let r : (a * digit_unit + c) % digit_unit ≡ c = omega arith in
    digits_from (suc n) (a * digit_unit + c) l m (omega arith) (λ x k. d x (Memᴰ.tail k))
    ∙ ap (λ (f : List ℕ). f ++ l) (rw (q, r) at (digits_more n (a * digit_unit + c) (omega arith))) ∙ append_assoc (digits n a) (c ∷ []) l

digits_code : {n : ℕ} {l : List ℕ} → length l ≤ n → Digits l → digits n (code l) ≡ l
digits_code {n} {l} h d = digits_from (n - length l) 0 l n (omega arith) d ∙ ap (λ (f : List ℕ). f ++ l) (digits_zero (n - length l))

-- so words with one code are one: codes tell patterns apart
pub code_one : {n : ℕ} {l m : List ℕ} → length l ≤ n → length m ≤ n → Digits l → Digits m → code l ≡ code m → l ≡ m
code_one {n} h k d f e = sym (digits_code h d) ∙ ap (digits n) e ∙ digits_code k f

pub code_inj : {k : ℕ} {l m : List ℕ} → Pattern k l → Pattern k m → code l ≡ code m → l ≡ m
code_inj p q e = code_one p.keyed.short q.keyed.short p.keyed.labels q.keyed.labels e

-- ---- a word behind another, and a word written several times

code_append : (a : ℕ) (l m : List ℕ) → code_from a (l ++ m) ≡ code_from (code_from a l) m
unfolding code_from
code_append a [] m = refl
code_append a (c ∷ l) m = code_append (a * digit_unit + c) l m

code_behind : (a : ℕ) (l : List ℕ) → code_from a l ≡ a * digit_unit ^ length l + code l
unfolding code_from
code_behind a [] = omega arith
code_behind a (c ∷ l) =
    let p = digit_unit ^ length l in
    let f : (a * digit_unit + c) * p ≡ a * (digit_unit * p) + c * p = add-mul (a * digit_unit) c p ∙ ap (λ (n : ℕ). n + c * p) (mul_assoc a digit_unit p) in
    let g : (0 * digit_unit + c) * p ≡ c * p = ap (λ (n : ℕ). n * p) (let h : 0 * digit_unit + c ≡ c = omega arith in h) in
    rw (pow-succ' digit_unit (length l)) (omega (arith, code_behind (a * digit_unit + c) l, code_behind (0 * digit_unit + c) l))

pub code_short : (l : List ℕ) → Digits l → code l < digit_unit ^ length l
code_short l d = omega (arith, code_lt (length l) 0 1 l (omega arith) d (omega arith))

pub code_end : (l m : List ℕ) → Digits m → code (l ++ m) % digit_unit ^ length m ≡ code m
code_end l m d = rw (code_append 0 l m, code_behind (code l) m, mul-add-mod_self_right (code l) (digit_unit ^ length m) (code m)) (mod-eq_of_lt (code_short m d))

pub times_in : (j : ℕ) {w : List ℕ} {x : ℕ} → x ∈ times j w → x ∈ w
unfolding times
times_in zero m = absurd (Memᴰ.not-nil m)
times_in (suc j) {w} m = ⊎_elim (λ k. k) (times_in j) (Memᴰ.append_cases w m)

-- a number with another, below unit, written j times behind it
unfoldable pub written : ℕ → ℕ → ℕ → ℕ → ℕ
written unit last a zero = a
written unit last a (suc j) = written unit last (a * unit + last) j

pub code_times : (j a : ℕ) (w : List ℕ) → code_from a (times j w) ≡ written (digit_unit ^ length w) (code w) a j
unfolding times code_from written
code_times zero a w = refl
code_times (suc j) a w = code_append a w (times j w) ∙ code_times j (code_from a w) w ∙ ap (λ (n : ℕ). written (digit_unit ^ length w) (code w) n j) (code_behind a w)

pub written_last : (unit last a j : ℕ) → last < unit → written unit last a (suc j) % unit ≡ last
unfolding written
written_last unit last a zero h = rw (mul-add-mod_self_right a unit last) (mod-eq_of_lt h)
written_last unit last a (suc j) h = written_last unit last (a * unit + last) j h

pub written_more : (unit last a j : ℕ) → 1 ≤ unit → a ≤ written unit last a j
unfolding written
written_more unit last a zero h = omega arith
written_more unit last a (suc j) h = le_trans (omega (arith, le-mul_of_pos_right a h)) (written_more unit last (a * unit + last) j h)

-- ---- and the code of the digits of a number is the number

pub code_digits_lem : (n x : ℕ) → x < digit_unit ^ n → code (digits n x) ≡ x
unfolding code_from
code_digits_lem zero x h = let e : 0 ≡ x = omega arith in rw (digits_end x) e
code_digits_lem (suc n) x h = elim (ℕ_discrete x 0) [
  | yes e ↦ rw (e, digits_zero (suc n)) refl
  | no ne ↦
      let more : x / digit_unit < digit_unit ^ n = omega (arith, rw pow-succ' at h) in
      let e : x / digit_unit * digit_unit + x % digit_unit ≡ x = omega arith in
      rw (digits_more n x (omega arith)) (code_append 0 (digits n (x / digit_unit)) (x % digit_unit ∷ []) ∙ rw (code_digits_lem n (x / digit_unit) more) e)
]

-- ---- check 12's test of a code

pub test_code : (k number : ℕ) → k ≤ most_longest → number < hub_unit → Tests (code? k number) (Coded k number)
unfolding code?
test_code k number small below = record { yields = there; passes = back }
  where
    l : List ℕ
    l = digits code_digits number

    there : T (keyed? k l && own? l) → Coded k number
    there t =
        let (a, b) = (test_and (test_keyed k l) (test_T (own? l))).yields t in
        record { pattern = l; is = record { keyed = a; own = (test_own l a.long).yields b }; coded = code_digits_lem code_digits number below }

    back : Coded k number → T (keyed? k l && own? l)
    back c =
        let p = c.is.keyed in
        let q : l ≡ c.pattern = ap (digits code_digits) (sym c.coded) ∙ digits_code (omega (arith, p.short)) p.labels in
        rw q ((test_and (test_keyed k c.pattern) (test_own c.pattern p.long)).passes (p, c.is.own))
