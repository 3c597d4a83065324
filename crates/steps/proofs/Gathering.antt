-- The edges that end in a row, gathered at the front of a memory one after another.
use mathlib.Core.Path.{◌≡◌, subst, ◌∙◌}
use mathlib.Core.Logic.{⊎_elim}
use mathlib.Core.List.Memᴰ
use mathlib.Core.List.{List, [], ◌∷◌, ◌++◌}
use Prim.Native.Nat.{ℕ, ◌+◌, ◌≤◌, ◌<◌}
use native.Mathlib.Omega.{arith}
use native.Mathlib.Nat.{le_refl}
use native.Mathlib.Numerals.{add-one}
use lib.ListN.{length, get_or, set, take, length-set}
use lib.Seq.{take-suc, take-set-le, get_or-set_same}
use Rattle.model.specs.Lists.{◌∈◌}
use Rattle.model.specs.Edges.{to_of}
use Rattle.rows.specs.Rows.{cell, On}
use Rattle.rows.proofs.Rows.{cell_cases}
use Rattle.steps.proofs.Passing.{before_or_last, passed, newly, passed_or_new}

-- the first n of live' are those of the first i edges that end in row `starts`
pub record Gathering (edges w : List ℕ) (starts : ℕ) (live live' : List ℕ) (i n : ℕ) : Type 0 where
  pub len : length live' ≡ length live
  pub most : i ≤ length edges
  pub fits : n ≤ i
  pub only : (x : ℕ) → x ∈ take n live' → (x ∈ take i edges) × On w starts (to_of x)
  pub all : (x : ℕ) → x ∈ take i edges → On w starts (to_of x) → x ∈ take n live'

module _ {edges w : List ℕ} {starts : ℕ} {live : List ℕ} where
  module _ {live' : List ℕ} {i n : ℕ} (g : Gathering edges w starts live live' i n) where
    module _ (room : length edges ≤ length live) (h : i < length edges) where
      -- the next edge, written behind those gathered
      abbrev x : ℕ
      x = get_or edges i 0

      abbrev live'' : List ℕ
      live'' = set live' n x

      inside : n < length live'
      inside = omega (arith, g.fits, g.len)

      front : take n live'' ≡ take n live'
      front = take-set-le n live' n x (le_refl n)

      longer : take (n + 1) live'' ≡ take n live' ++ (x ∷ [])
      longer =
          let h : n < length live'' = omega (arith, inside, length-set live' n x) in
          let e : take (n + 1) live'' ≡ take n live'' ++ (get_or live'' n 0 ∷ []) = rw (add-one n) (take-suc live'' n 0 h) in
          rw (front, get_or-set_same live' n x 0 inside) at e

      -- it ends in the row
      kept : On w starts (to_of x) → Gathering edges w starts live live'' (i + 1) (n + 1)
      kept on =
          record {
            len = length-set live' n x ∙ g.len;
            most = omega arith;
            fits = omega (arith, g.fits);
            only = λ z m. ⊎_elim
                (λ k. (passed edges i h (g.only z k).0, (g.only z k).1))
                (λ e. (rw e (newly edges i h), rw e on))
                (before_or_last (take n live') (rw longer at m));
            all = λ z m o. rw longer (⊎_elim
                (λ k. Memᴰ.append_left (x ∷ []) (g.all z k o))
                (λ e. Memᴰ.append_right (take n live') (Memᴰ.head e))
                (passed_or_new edges i h m));
          }

      -- it does not
      left_out : (On w starts (to_of x) → ⊥) → Gathering edges w starts live live'' (i + 1) n
      left_out off =
          record {
            len = length-set live' n x ∙ g.len;
            most = omega arith;
            fits = omega (arith, g.fits);
            only = λ z m. let k = g.only z (rw front at m) in (passed edges i h k.0, k.1);
            all = λ z m o. rw front (⊎_elim
                (λ k. g.all z k o)
                (λ e. absurd (off (subst (λ (y : ℕ). On w starts (to_of y)) e o)))
                (passed_or_new edges i h m));
          }

      pub gathering_more : {b : ℕ} → b ≡ cell w starts (to_of x) → Gathering edges w starts live live'' (i + 1) (n + b)
      gathering_more {b} e =
          ⊎_elim
          (λ z. let q : n + b ≡ n = omega arith in rw q (left_out (λ o. omega arith)))
          (λ o. let q : n + b ≡ n + 1 = omega arith in rw q (kept o))
          (cell_cases w starts (to_of x))
