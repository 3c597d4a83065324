-- What writes to the numbers of a row make of it.
use mathlib.Core.Path.{◌≡◌, refl}
use mathlib.Core.List.{List}
use mathlib.Core.Logic.Iff
use mathlib.Core.Logic.{◌⊎◌, inl, inr, ⊎_elim, ◌↔◌, ◌≢◌}
use Prim.Native.Nat.{ℕ, ◌+◌, ◌-◌, ◌*◌, ◌/◌, ◌%◌, ◌^◌, ◌<◌}
use native.Mathlib.Omega.{arith}
use native.Mathlib.Decide.{ℕ_discrete}
use lib.Bits.{bit_and, bit_or}
use lib.ListN.{get_or, replicate, set, length, length-set}
use lib.Seq.{get_or-set_same, get_or-set_other}
use Rattle.std.proofs.lemmas.List.{get_or-replicate}
use Rattle.std.specs.Int.{w64, bit_at, bit_not}
use Rattle.std.proofs.lemmas.Nat.Bits.{bit_at_set_same, bit_at_set_other, bit_at_clear_same, bit_at_clear_other, bit_at_ones}
use Rattle.rows.proofs.Bits.{no_bit, or_iff, without_iff}
use Rattle.model.specs.Limits.{most_vertices}
use Rattle.rows.specs.Region.{row_numbers}
use Rattle.rows.specs.Rows.{cell, On, Has, KeepsRows, Becomes}
use Rattle.rows.specs.Numbers.{number, Makes}

-- what holds of a number after another or itself is written
set_is : (Q : ℕ → Type 0) (l : List ℕ) (i v k : ℕ) → i < length l → (k ≡ i → Q v) → (k ≢ i → Q (get_or l k 0)) → Q (get_or (set l i v) k 0)
set_is Q l i v k h f g = elim (ℕ_discrete k i) [
  | yes e ↦ rw (e, get_or-set_same l i v 0 h) (f e)
  | no d ↦ rw (get_or-set_other l i k v 0 d) (g d)
]

-- a row each of whose numbers has the bits of P
pub made_is : {w w' : List ℕ} {r : ℕ} {R : ℕ → ℕ → Type 0} {P : ℕ → Type 0} → Makes w w' r R
    → ((j y : ℕ) → j < most_vertices → R (j / 64) y → (bit_at y (j % 64) ≡ 1) ↔ P j) → Becomes w w' r P
unfolding cell
made_is m f =
    record {
      keeps = m.keeps;
      row = record {
        only = λ j h. (f j _ h (m.made (j / 64) (omega arith))).0;
        all = λ j h. (f j _ h (m.made (j / 64) (omega arith))).1;
      };
    }

-- row x of each two numbers of rows a and b
pub union_is : (a b : ℕ) {w w' : List ℕ} {x : ℕ} {R : ℕ → ℕ → Type 0} → ((i y : ℕ) → R i y → y ≡ bit_or (number w a i) (number w b i))
    → Makes w w' x R → Becomes w w' x (λ k. On w a k ⊎ On w b k)
unfolding cell
union_is a b f m = made_is m (λ j y h r. rw (f _ _ r) (or_iff _ _ (j % 64)))

pub subtract_is : (a b : ℕ) {w w' : List ℕ} {x : ℕ} {R : ℕ → ℕ → Type 0} → ((i : ℕ) → get_or w i 0 < 2 ^ 64) → ((i y : ℕ) → R i y → y ≡ bit_and (number w a i) (bit_not w64 (number w b i)))
    → Makes w w' x R → Becomes w w' x (λ k. On w a k × (On w b k → ⊥))
unfolding cell
subtract_is a b s f m = made_is m (λ j y h r. rw (f _ _ r) (without_iff _ _ (j % 64) (s _) (omega arith)))

pub copy_is : (a : ℕ) {w w' : List ℕ} {x : ℕ} {R : ℕ → ℕ → Type 0} → ((i y : ℕ) → R i y → y ≡ number w a i) → Makes w w' x R → Becomes w w' x (On w a)
unfolding cell
copy_is a f m = made_is m (λ j y h r. rw (f _ _ r) Iff.rfl)

pub fill_is : {w w' : List ℕ} {r : ℕ} → Makes w w' r (λ i y. y ≡ get_or (replicate row_numbers (2 ^ 64 - 1)) i 0) → Becomes w w' r (λ k. k < most_vertices)
fill_is m = made_is m (λ j y h e. (λ _. h, λ _. rw (e, get_or-replicate row_numbers (j / 64) (2 ^ 64 - 1) 0 (omega arith)) (bit_at_ones 64 (j % 64) (omega arith))))

pub clear_is : {w w' : List ℕ} {r : ℕ} → Makes w w' r (λ i y. y ≡ get_or (replicate row_numbers 0) i 0) → Becomes w w' r (λ k. ⊥)
clear_is m = made_is m (λ j y h e. (λ o. no_bit (j % 64) (rw (e, get_or-replicate {A = ℕ} row_numbers (j / 64) 0 0 (omega arith)) at o), λ p. absurd p))

-- ---- number by number

-- w' is w with the first i numbers of row r those of v
pub record Storing (w w' : List ℕ) (r : ℕ) (v : List ℕ) (i : ℕ) : Type 0 where
  pub keeps : KeepsRows w w' (λ q. q ≢ r)
  pub stored : (k : ℕ) → k < i → number w' r k ≡ get_or v k 0

-- ---- one bit
module _ {w : List ℕ} {r j : ℕ} (h : Has w r) (l : j < most_vertices) where
  -- the number that j is in is written
  one_is : (v : ℕ) (P : ℕ → Type 0) → ((k : ℕ) → k < most_vertices → k / 64 ≡ j / 64 → (bit_at v (k % 64) ≡ 1) ↔ P k)
      → ((k : ℕ) → k < most_vertices → (k ≡ j → ⊥) → On w r k ↔ P k) → Becomes w (set w (r * row_numbers + j / 64) v) r P
  unfolding cell
  one_is v P f g =
      record {
        keeps = record {
          len = length-set w _ _;
          same = λ k n. get_or-set_other w (r * row_numbers + j / 64) k _ 0 (λ e. n (omega arith));
        };
        row = record { only = λ k n. (is k n).0; all = λ k n. (is k n).1 };
      }
    where
      is : (k : ℕ) → k < most_vertices → (bit_at (number (set w (r * row_numbers + j / 64) v) r (k / 64)) (k % 64) ≡ 1) ↔ P k
      is k n = set_is (λ y. (bit_at y (k % 64) ≡ 1) ↔ P k) w (r * row_numbers + j / 64) v (r * row_numbers + k / 64) (omega (arith, h.row, h.long))
          (λ e. f k n (omega arith))
          (λ e. g k n (λ q. e (rw q refl)))

  -- the other bits of the number
  other : (v : ℕ) → ((i : ℕ) → i < 64 → i ≢ j % 64 → bit_at v i ≡ bit_at (number w r (j / 64)) i)
      → (k : ℕ) → k / 64 ≡ j / 64 → (k ≡ j → ⊥) → (bit_at v (k % 64) ≡ 1) ↔ On w r k
  unfolding cell
  other v f k e n = let is = f (k % 64) (omega arith) (λ d. n (omega arith)) in rw (is, e) (λ y. y, λ y. y)

  pub mark_is : Becomes w (set w (r * row_numbers + j / 64) (bit_or (number w r (j / 64)) (1 * 2 ^ (j % 64) % 2 ^ 64))) r (λ k. On w r k ⊎ (k ≡ j))
  mark_is = one_is _ _
      (λ k n e. elim (ℕ_discrete k j) [
        | yes q ↦ rw q (λ y. inr refl, λ y. bit_at_set_same w64 _ (j % 64) (omega arith))
        | no q ↦ Iff.trans (other _ (λ i _. bit_at_set_other w64 _ (j % 64) (omega arith) i) k e q) (kept k q)
      ])
      (λ k n. kept k)
    where
      kept : (k : ℕ) → (k ≡ j → ⊥) → On w r k ↔ (On w r k ⊎ (k ≡ j))
      kept k n = (inl, ⊎_elim (λ y. y) (λ q. absurd (n q)))

  pub unmark_is : Becomes w (set w (r * row_numbers + j / 64) (bit_and (number w r (j / 64)) (bit_not w64 (1 * 2 ^ (j % 64) % 2 ^ 64)))) r
      (λ k. On w r k × (k ≡ j → ⊥))
  unmark_is = one_is _ _
      (λ k n e. elim (ℕ_discrete k j) [
        | yes q ↦ rw q (λ y. absurd (omega (arith, bit_at_clear_same w64 (number w r (j / 64)) (j % 64) (omega arith))), λ y. absurd (y.1 refl))
        | no q ↦ Iff.trans (other _ (bit_at_clear_other w64 _ (j % 64) (omega arith)) k e q) (kept k q)
      ])
      (λ k n. kept k)
    where
      kept : (k : ℕ) → (k ≡ j → ⊥) → On w r k ↔ (On w r k × (k ≡ j → ⊥))
      kept k n = (λ y. (y, n), λ y. y.0)
