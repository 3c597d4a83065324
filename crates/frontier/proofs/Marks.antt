-- How many states are marked: a mark that is set anew adds one, and a store in the queue adds none.
--
use mathlib.Core.Path.{◌≡◌, refl, sym, ap, ◌∙◌}
use mathlib.Core.Bool.{Bool, true, false}
use mathlib.Core.List.{List, [], ◌∷◌}
use Prim.Native.Nat.{ℕ, zero, suc, ◌+◌, ◌≤◌, ◌<◌, zero-le}
use native.Mathlib.Nat.{not-suc-le-zero, le_of_suc-le-suc}
use native.Mathlib.Omega.{arith}
use lib.ListN.{length, get_or, take, set, length-take}
use lib.Seq.{take-set-le, take-set-lt, get_or-take}
use lib.Dec.{eqb}
use borrow.Author.Tests.{ne_eqb}
use Rattle.model.specs.Computed.Levels.{most_states}
use Rattle.frontier.specs.Work.{one, ones, marks}

one_le : (b : Bool) → one b ≤ 1
one_le true = omega arith
one_le false = omega arith

ones_le : (l : List ℕ) → ones l ≤ length l
unfolding ones
ones_le [] = zero-le
ones_le (x ∷ xs) = omega (arith, one_le (eqb x 1), ones_le xs)

ones_set : (l : List ℕ) (i : ℕ) → i < length l → (get_or l i 0 ≡ 1 → ⊥) → ones (set l i 1) ≡ ones l + 1
unfolding ones
ones_set [] i h n = absurd (not-suc-le-zero h)
ones_set (x ∷ xs) zero h n = rw (ne_eqb x 1 n) (omega arith)
ones_set (x ∷ xs) (suc i) h n = omega (arith, ones_set xs i (le_of_suc-le-suc h) n)

pub marks_set : (w : List ℕ) (y : ℕ) → y < most_states → most_states ≤ length w → (get_or w y 0 ≡ 1 → ⊥) → marks (set w y 1) ≡ marks w + 1
unfolding marks
marks_set w y h l n =
    rw (take-set-lt most_states w y 1 h)
    (ones_set (take most_states w) y (rw (length-take most_states w) (omega arith)) (λ e. n (sym (get_or-take most_states w y 0 h) ∙ e)))

pub marks_far : (w : List ℕ) (i v : ℕ) → most_states ≤ i → marks (set w i v) ≡ marks w
unfolding marks
marks_far w i v h = ap ones (take-set-le most_states w i v h)

pub marks_le : (w : List ℕ) → marks w ≤ most_states
unfolding marks
marks_le w = omega (arith, ones_le (take most_states w), length-take most_states w)

ones_none : (l : List ℕ) → ((i : ℕ) → i < length l → get_or l i 0 ≡ 0) → ones l ≡ 0
unfolding ones
ones_none [] h = refl
ones_none (x ∷ xs) h = let z : x ≡ 0 = h 0 (omega arith) in rw z (omega (arith, ones_none xs (λ i k. h (suc i) (omega arith))))

pub marks_none : (w : List ℕ) → ((y : ℕ) → y < most_states → get_or w y 0 ≡ 0) → marks w ≡ 0
unfolding marks
marks_none w h = ones_none (take most_states w) (λ i k. inside i (omega (arith, length-take most_states w)))
  where
    inside : (i : ℕ) → i < most_states → get_or (take most_states w) i 0 ≡ 0
    inside i k = get_or-take most_states w i 0 k ∙ h i k
