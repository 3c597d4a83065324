-- A word spelled from its number, last label first.
use mathlib.Core.Path.{◌≡◌, refl, sym, ap, ◌∙◌}
use mathlib.Core.List.{List, [], ◌∷◌, ◌++◌, append-nil}
use Prim.Native.Nat.{ℕ, suc, ◌+◌, ◌-◌, ◌*◌, ◌/◌, ◌%◌, ◌^◌, ◌≤◌, ◌<◌}
use native.Mathlib.Nat.{pow-succ', div-add-mod', mod-lt}
use native.Mathlib.Numerals.{add-one}
use native.Mathlib.Omega.{arith}
use lib.ListN.{length, take, drop, get_or, set, length-set}
use lib.Seq.{length-take-le, drop-length, append_snoc, set_split, drop_at}
use Rattle.model.specs.Limits.{most_label}
use Rattle.model.specs.Computed.Patterns.{words}
use Rattle.model.proofs.Table.{words_last}

-- the labels from i on are spelled, and those before them are the word at `rest`
pub record SpelledFrom (n number : ℕ) (word : List ℕ) (i rest : ℕ) : Type 0 where
  pub long : length word ≡ n
  pub low : i ≤ n
  pub small : rest < most_label ^ i
  pub is : get_or (words i) rest [] ++ drop i word ≡ get_or (words n) number []

pub spelled_none : (number : ℕ) (word : List ℕ) → number < most_label ^ length word → SpelledFrom (length word) number word (length word) number
spelled_none number word h = record { long = refl; low = omega arith; small = h; is = rw (drop-length word, append-nil) }

pub spelled_more : {n number : ℕ} {word : List ℕ} {i rest : ℕ} → SpelledFrom n number word i rest → 0 < i
    → SpelledFrom n number (set word (i - 1) (rest % most_label + 1)) (i - 1) (rest / most_label)
spelled_more {n} {number} {word} {i} {rest} s h = record {
  long = length-set word (i - 1) (rest % most_label + 1) ∙ s.long;
  low = omega (arith, s.low);
  small = omega (arith, s.small, power);
  is =
      ap (λ (l : List ℕ). get_or (words (i - 1)) (rest / most_label) [] ++ l) written
      ∙ sym (append_snoc (get_or (words (i - 1)) (rest / most_label) []) (suc (rest % most_label)) (drop i word))
      ∙ ap (λ (l : List ℕ). l ++ drop i word) (sym last)
      ∙ s.is;
}
  where
    next : suc (i - 1) ≡ i
    next = omega arith

    power : most_label ^ i ≡ most_label * most_label ^ (i - 1)
    power = sym (ap (λ (n : ℕ). most_label ^ n) next) ∙ pow-succ' most_label (i - 1)

    written : drop (i - 1) (set word (i - 1) (rest % most_label + 1)) ≡ suc (rest % most_label) ∷ drop i word
    written =
        ap (drop (i - 1)) (set_split word (i - 1) (rest % most_label + 1) (omega (arith, s.long, s.low)))
        ∙ drop_at (take (i - 1) word) _ (i - 1) (length-take-le (i - 1) word (omega (arith, s.long, s.low)))
        ∙ rw (add-one, next)

    last : get_or (words i) rest [] ≡ get_or (words (i - 1)) (rest / most_label) [] ++ (suc (rest % most_label) ∷ [])
    last =
        rw (next, div-add-mod' rest most_label)
        at (words_last (i - 1) (rest / most_label) (rest % most_label) (omega (arith, s.small, power)) (mod-lt rest (omega arith)))

pub spelled_all : {n number : ℕ} {word : List ℕ} {i rest : ℕ} → SpelledFrom n number word i rest → i ≤ 0 → word ≡ get_or (words n) number []
unfolding words
spelled_all {i = i} {rest = rest} s h =
    let none : i ≡ 0 = omega arith in
    let only : rest ≡ 0 = omega (arith, rw none at s.small) in
    rw (none, only) at s.is
