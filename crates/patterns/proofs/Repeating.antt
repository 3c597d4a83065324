-- Words that repeat: a list of j * d elements is its first d, written j times, if each element from index d on is the one d before it.
use mathlib.Core.Path.{◌≡◌, refl, sym, ap, ◌∙◌}
use mathlib.Core.List.{List, [], ◌∷◌, ◌++◌, append-nil}
use Prim.Native.Nat.{ℕ, zero, suc, ◌+◌, ◌-◌, ◌*◌, ◌≤◌, ◌<◌}
use native.Mathlib.Nat.{not-suc-le-zero, suc-mul}
use native.Mathlib.Omega.{arith}
use lib.ListN.{length, take, drop, get_or, length-append, length-drop, take-append-drop, get_or-append}
use lib.Seq.{length-take-le, take_all, get_or-append-add, get_or-take, get_or-drop, ext_get_or}
use Rattle.model.specs.Patterns.{times}
use Rattle.model.proofs.Lists.{Below}
use Rattle.model.proofs.Patterns.{times_last}

-- the element at index j is the one d before it
abbrev pub Back : List ℕ → ℕ → ℕ → Type 0
Back l d j = d ≤ j → get_or l j 0 ≡ get_or l (j - d) 0

pub times_back : (j : ℕ) (w : List ℕ) (i : ℕ) → i < length (times j w) → Back (times j w) (length w) i
unfolding times
times_back zero w i h k = absurd (not-suc-le-zero h)
times_back (suc j) w i h k =
    let r = i - length w in
    let e : length w + r ≡ i = omega arith in
    let short : r < length (times j w) = omega (arith, length-append w (times j w)) in
    rw e at (get_or-append-add w (times j w) r 0) ∙ sym (get_or-append (times j w) w 0 r short) ∙ ap (λ (l : List ℕ). get_or l r 0) (times_last j w)

-- from index d on the list reads as it does from 0 on, so what is left behind the first d repeats them too
module _ (d : ℕ) (l : List ℕ) (b : Below (Back l d) (length l)) where
  again : (i : ℕ) → d + i < length l → get_or (drop d l) i 0 ≡ get_or l i 0
  again i h = let e : d + i - d ≡ i = omega arith in get_or-drop d l i 0 ∙ rw e at (b.at (d + i) h (omega arith))

  again_front : d + d ≤ length l → take d (drop d l) ≡ take d l
  again_front h =
      let short = length-drop d l in
      let long = length-take-le d (drop d l) (omega arith) in
      ext_get_or 0 _ _ (long ∙ sym (length-take-le d l (omega arith))) (λ i q.
      let k : i < d = omega arith in
      get_or-take d (drop d l) i 0 k ∙ again i (omega arith) ∙ sym (get_or-take d l i 0 k))

  again_rest : Below (Back (drop d l) d) (length (drop d l))
  again_rest = record {
    at = λ i h k. let short = length-drop d l in again i (omega arith) ∙ b.at i (omega arith) k ∙ sym (again (i - d) (omega arith));
  }

pub back_times : (j d : ℕ) (l : List ℕ) → length l ≡ j * d → Below (Back l d) (length l) → times j (take d l) ≡ l
unfolding times
back_times zero d [] e b = refl
back_times zero d (x ∷ l) e b = absurd (omega arith)
back_times (suc zero) d l e b = append-nil (take d l) ∙ take_all d l (omega arith)
back_times (suc (suc j)) d l e b =
    let long : length l ≡ d + d + j * d = omega (arith, suc-mul (suc j) d, suc-mul j d) in
    let rest = back_times (suc j) d (drop d l) (omega (arith, length-drop d l, suc-mul j d)) (again_rest d l b) in
    ap (λ (r : List ℕ). take d l ++ r) (rw (again_front d l b (omega arith)) at rest) ∙ take-append-drop d l
