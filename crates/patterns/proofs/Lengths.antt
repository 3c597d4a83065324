-- The lengths that the recursion tries: whether one repeats, as the loop finds it, and the length of the minimum repeat.
use mathlib.Core.Path.{◌≡◌, refl, sym, ap, ◌∙◌}
use mathlib.Core.Bool.{Bool, true, false, cond}
use mathlib.Core.List.{List}
use Prim.Native.Nat.{ℕ, suc, ◌+◌, ◌-◌, ◌/◌, ◌%◌, ◌≤◌, ◌<◌}
use native.Mathlib.Nat.{div-add-mod'}
use native.Mathlib.Numerals.{add-one}
use native.Mathlib.Omega.{arith}
use lib.ListN.{length, take, get_or}
use lib.Seq.{length-take-le}
use Rattle.model.specs.Limits.{most_longest}
use Rattle.model.specs.Patterns.{times, Keyed}
use Rattle.model.specs.Computed.Patterns.{keyed?, repeat_from, min_repeat, folded_length, times_written}
use Rattle.model.proofs.Tests.{Tests, test_same, test_true, test_false}
use Rattle.model.proofs.Lists.{Below}
use Rattle.model.proofs.Patterns.{length_times, repeat_long, folded_length_lem, times_written_lem}
use Rattle.patterns.specs.Repeats.{repeats?, length_from}
use Rattle.patterns.proofs.Repeating.{Back, times_back, back_times}

test_repeats : (l : List ℕ) (d : ℕ) → Tests (repeats? l d) (times (length l / d) (take d l) ≡ l)
unfolding repeats?
test_repeats l d = test_same (times (length l / d) (take d l)) l

module _ (l : List ℕ) (d : ℕ) (h : (1 ≤ d) × (d ≤ length l)) where
  -- the writings together have a multiple of d labels
  pub repeats_part : (length l % d ≡ 0 → ⊥) → false ≡ repeats? l d
  repeats_part n = sym (test_false (test_repeats l d) (λ e.
      n (omega (arith, div-add-mod' (length l) d, ap length e, rw (length-take-le d l h.1) at (length_times (length l / d) (take d l))))))

  pub repeats_other : {i : ℕ} → d ≤ i → i < length l → (get_or l i 0 ≡ get_or l (i - d) 0 → ⊥) → false ≡ repeats? l d
  repeats_other {i} a b n = sym (test_false (test_repeats l d) (λ e.
      let long : length (times (length l / d) (take d l)) ≡ length l = ap length e in
      let back : Back (times (length l / d) (take d l)) (length (take d l)) i = times_back (length l / d) (take d l) i (omega arith) in
      n (rw (e, length-take-le d l h.1) at back a)))

  pub repeats_all : {i : ℕ} → length l % d ≡ 0 → length l ≤ i → Below (Back l d) i → true ≡ repeats? l d
  repeats_all z k b = sym (test_true (test_repeats l d)
      (back_times (length l / d) d l (omega (arith, div-add-mod' (length l) d)) (record { at = λ j q. b.at j (omega arith) })))

  -- one length after another
  from_step : length_from l d ≡ cond (repeats? l d) d (length_from l (d + 1))
  unfolding repeats? length_from repeat_from
  from_step =
      let e : suc (length l) - d ≡ suc (length l - d) = omega (arith, h.1) in
      let f : suc (length l) - (d + 1) ≡ length l - d = omega arith in
      rw (e, f, add-one) (go (repeats? l d))
    where
      go : (b : Bool) → length (cond b (take d l) (repeat_from (length l - d) (suc d) l)) ≡ cond b d (length (repeat_from (length l - d) (suc d) l))
      go true = length-take-le d l h.1
      go false = refl

  pub from_here : repeats? l d ≡ true → d ≡ length_from l d
  from_here e = sym (rw e at from_step)

  pub from_next : repeats? l d ≡ false → length_from l (d + 1) ≡ length_from l d
  from_next e = sym (rw e at from_step)

  -- the whole pattern is its own repeat
  pub from_last : length l ≤ d → d ≡ length_from l d
  unfolding length_from repeat_from
  from_last k = go (repeats? l d) refl
    where
      go : (b : Bool) → repeats? l d ≡ b → d ≡ length_from l d
      go true e = from_here e
      go false e =
          let none : suc (length l) - (d + 1) ≡ 0 = omega arith in
          let whole : length_from l (d + 1) ≡ length l = rw none in
          omega (arith, from_next e)

-- ---- the minimum repeat of a pattern, and how often it was written

-- both are 0 of what is no pattern
pub folded_not : (l : List ℕ) → keyed? most_longest l ≡ false → (0 ≡ folded_length l) × (0 ≡ times_written l)
unfolding folded_length times_written
folded_not l e = rw e (refl, refl)

-- by the length of the minimum repeat, whoever found it
pub found_some : (l : List ℕ) → Keyed most_longest l → {n : ℕ} → n ≡ length (min_repeat l) → 1 ≤ n
found_some l p e = omega (arith, e, repeat_long l p.long)

pub folded_found : (l : List ℕ) → Keyed most_longest l → {n : ℕ} → n ≡ length (min_repeat l) → (n ≡ folded_length l) × (length l / n ≡ times_written l)
folded_found l p e = (e ∙ sym (folded_length_lem l p), ap (λ (m : ℕ). length l / m) e ∙ sym (times_written_lem l p))

pub from_first : (l : List ℕ) → length_from l 1 ≡ length (min_repeat l)
unfolding min_repeat length_from
from_first l = let all : suc (length l) - 1 ≡ length l = omega arith in rw all
