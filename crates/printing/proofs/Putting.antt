-- Laws of text in lent bytes, how long numerals and lines are at most, and what a list of lines is of one more.
use mathlib.Core.Path.{◌≡◌, refl, sym, ap, ◌∙◌}
use mathlib.Core.Bool.{Bool, true, false, cond}
use mathlib.Core.List.{List, [], ◌∷◌, ◌++◌, append_assoc, append-nil}
use Prim.Native.Nat.{ℕ, zero, suc, ◌+◌, ◌-◌, ◌*◌, ◌/◌, ◌%◌, ◌≤◌, ◌<◌}
use native.Mathlib.Nat.{suc-mul}
use native.Mathlib.Numerals.{add-one}
use native.Mathlib.Omega.{arith}
use borrow.Author.Tests.{lt-ltb, le-ltb}
use lib.Dec.{ltb}
use lib.ListN.{length, take, drop, get_or, length-append, take-append-drop}
use lib.Seq.{length-take-le, take_all, take_at, drop_at, drop-drop, take-suc}
use Rattle.std.proofs.lemmas.Grind.{common_steps}
use Rattle.model.specs.Computed.Lists.{spread}
use Rattle.model.proofs.Lists.{spread_append}
use Rattle.printing.specs.Puts.{Puts}
use Rattle.printing.specs.Lines.{numeral, side_line, entry_line, counts, header_line, number_line}

-- ---- text in lent bytes

pub puts_none : (out : List ℕ) (at : ℕ) → Puts out at [] out at
puts_none out at = record { end = omega arith; bytes = sym (take-append-drop at out) }

-- a text copied into the part from `at` to its end
pub puts_copied : (out text part : List ℕ) (at : ℕ) → part ≡ text
    → Puts out at text (take at out ++ (part ++ drop ((at + length text) - at) (drop at out))) (at + length text)
puts_copied out text part at e = record { end = refl; bytes = ap (λ (l : List ℕ). take at out ++ l) part_is }
  where
    n : (at + length text) - at ≡ length text
    n = omega arith

    part_is : part ++ drop ((at + length text) - at) (drop at out) ≡ text ++ drop (at + length text) out
    part_is = rw (e, n, drop-drop (length text) at out) refl

-- text after text
pub puts_then : {out s out₁ t out₂ : List ℕ} {at a b : ℕ} → at ≤ length out → Puts out at s out₁ a → Puts out₁ a t out₂ b → Puts out at (s ++ t) out₂ b
puts_then {out} {s} {out₁} {t} {out₂} {at} {a} {b} inside p q = record { end = omega (arith, p.end, q.end, length-append s t); bytes = whole }
  where
    front : length (take at out ++ s) ≡ a
    front = length-append (take at out) s ∙ ap (λ (n : ℕ). n + length s) (length-take-le at out inside) ∙ sym p.end

    split : out₁ ≡ (take at out ++ s) ++ drop a out
    split = p.bytes ∙ sym (append_assoc (take at out) s (drop a out))

    before : take a out₁ ≡ take at out ++ s
    before = ap (take a) split ∙ take_at (take at out ++ s) (drop a out) a front

    behind : drop b out₁ ≡ drop b out
    behind =
        ap (λ (n : ℕ). drop n out₁) q.end
        ∙ sym (drop-drop (length t) a out₁)
        ∙ ap (drop (length t)) (ap (drop a) split ∙ drop_at (take at out ++ s) (drop a out) a front)
        ∙ drop-drop (length t) a out
        ∙ ap (λ (n : ℕ). drop n out) (sym q.end)

    whole : out₂ ≡ take at out ++ ((s ++ t) ++ drop b out)
    whole = q.bytes ∙ rw (before, behind) (simp append_assoc)

-- ---- numerals

pub numeral_length : (b most n : ℕ) → length (numeral b most n) ≤ most
unfolding numeral
numeral_length b zero n = omega arith
numeral_length b (suc most) n = go (numeral_length b most (n / b)) (ltb n b)
  where
    go : length (numeral b most (n / b)) ≤ most → (x : Bool) → length (cond x ((48 + n) ∷ []) (numeral b most (n / b) ++ ((48 + n % b) ∷ []))) ≤ suc most
    go h true = omega arith
    go h false = omega (arith, length-append (numeral b most (n / b)) ((48 + n % b) ∷ []))

-- the cases of `numeral`: none, one, and more
pub numeral_none : (b most n : ℕ) → most ≡ 0 → numeral b most n ≡ []
unfolding numeral
numeral_none b most n e = rw e

pub numeral_one : (b most n : ℕ) → 1 ≤ most → n < b → numeral b most n ≡ (48 + n) ∷ []
unfolding numeral
numeral_one b zero n h l = absurd (omega arith)
numeral_one b (suc most) n h l = rw (lt-ltb n b l)

pub numeral_more : (b most n : ℕ) → 1 ≤ most → b ≤ n → numeral b most n ≡ numeral b (most - 1) (n / b) ++ ((48 + n % b) ∷ [])
unfolding numeral
numeral_more b zero n h l = absurd (omega arith)
numeral_more b (suc most) n h l =
    let m : most ≡ suc most - 1 = omega arith in
    rw (le-ltb n b l) (ap (λ (m : ℕ). numeral b m (n / b) ++ ((48 + n % b) ∷ [])) m)

-- ---- how long the parts of a line are, and the lines, at most

pub ruleset lengths = (length-append, append_assoc, numeral_length)

pub ruleset digits = (lengths, append-nil, numeral_none, numeral_one, numeral_more)

pub number_length : (n : ℕ) → length (number_line n) ≤ 11
unfolding number_line
number_length n = grind (arith, lengths)

pub counts_length : (v k m n : ℕ) → length (counts v k m n) ≤ 71
unfolding counts
counts_length v k m n = grind (arith, lengths)

pub header_length : (v k m n : ℕ) → length (header_line v k m n) ≤ 72
unfolding header_line
header_length v k m n = grind (arith, lengths, counts_length)

pub side_length : (e : ℕ) → length (side_line e) ≤ 14
unfolding side_line
side_length e = grind (arith, common_steps, lengths)

pub entry_length : (e : ℕ) → length (entry_line e) ≤ 32
unfolding entry_line
entry_length e = grind (arith, lengths, side_length)

pub ruleset line_lengths = (lengths, number_length, counts_length, header_length, side_length, entry_length)

-- the lines of a list, and of its first i elements
module _ (line : ℕ → List ℕ) (most : ℕ) (each : (x : ℕ) → length (line x) ≤ most) where
  spread_length : (l : List ℕ) → length (spread line l) ≤ length l * most
  unfolding spread
  spread_length [] = omega arith
  spread_length (x ∷ l) = omega (arith, length-append (line x) (spread line l), each x, spread_length l, suc-mul (length l) most)

  spread_first : (i : ℕ) (l : List ℕ) → length (spread line (take i l)) ≤ i * most
  unfolding spread
  spread_first zero l = omega arith
  spread_first (suc i) [] = omega arith
  spread_first (suc i) (x ∷ l) = omega (arith, length-append (line x) (spread line (take i l)), each x, spread_first i l, suc-mul i most)

pub entries_first : (i : ℕ) (l : List ℕ) → length (spread entry_line (take i l)) ≤ i * 32
entries_first i l = spread_first entry_line 32 entry_length i l

pub numbers_first : (i : ℕ) (l : List ℕ) → length (spread number_line (take i l)) ≤ i * 11
numbers_first i l = spread_first number_line 11 number_length i l

pub numbers_length : (l : List ℕ) → length (spread number_line l) ≤ length l * 11
numbers_length l = spread_length number_line 11 number_length l

-- ---- the lines of no number, of one more, and of all

-- what is spread of one element more
spread_snoc : (f : ℕ → List ℕ) (l : List ℕ) (x : ℕ) → spread f (l ++ (x ∷ [])) ≡ spread f l ++ f x
unfolding spread
spread_snoc f l x = spread_append f l (x ∷ []) ∙ ap (λ (m : List ℕ). spread f l ++ m) (append-nil (f x))

pub lines_none : (line : ℕ → List ℕ) → spread line [] ≡ []
unfolding spread
lines_none line = refl

module _ (line : ℕ → List ℕ) (l : List ℕ) where
  pub lines_all : (i : ℕ) → length l ≤ i → spread line (take i l) ≡ spread line l
  lines_all i h = ap (spread line) (take_all i l h)

  pub lines_more : (i : ℕ) → i < length l → spread line (take (i + 1) l) ≡ spread line (take i l) ++ line (get_or l i 0)
  lines_more i h = rw (add-one, take-suc l i 0 h) (spread_snoc line (take i l) (get_or l i 0))

pub ruleset lines = (append-nil, lines_none, lines_all, lines_more)

pub ruleset entry_lines = (line_lengths, lines, entries_first)

pub ruleset number_lines = (line_lengths, lines, numbers_first)
