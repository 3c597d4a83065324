-- The search for the first vertex of a set, number by number: a number passed, and the vertex found.
use mathlib.Core.Path.{◌≡◌, sym, ap, ◌∙◌}
use mathlib.Core.List.{List}
use mathlib.Core.Logic.{◌↔◌}
use Prim.Native.Nat.{ℕ, ◌+◌, ◌-◌, ◌*◌, ◌/◌, ◌%◌, ◌^◌, ◌≤◌, ◌<◌, max}
use native.Mathlib.Nat.{lt_of_le_of_lt}
use native.Mathlib.Omega.{arith}
use native.Mathlib.Decide.{dec_lt}
use lib.Bits.{bit_and, and_le_l}
use lib.Count.{count_trailing_zeros}
use lib.ListN.{get_or}
use lib.Pow.{shr_le, shr-shr}
use Rattle.std.specs.Int.{bit_at}
use Rattle.model.specs.Limits.{most_vertices}
use Rattle.rows.specs.Region.{row_numbers}
use Rattle.rows.specs.Rows.{cell, On, FirstFrom, NoneFrom, FirstShared, NoneShared}
use Rattle.rows.proofs.Bits.{no_bit, bit_below, and_iff, Lowest, lowest}

-- no vertex of P from p on is in the first i numbers
pub record Gap (P : ℕ → Type 0) (p i : ℕ) : Type 0 where
  pub gap : (j : ℕ) → p ≤ j → j < i * 64 → P j → ⊥

-- q is the first vertex of P from p on
record First (P : ℕ → Type 0) (p q : ℕ) : Type 0 where
  low : p ≤ q
  high : q < most_vertices
  gap : (j : ℕ) → p ≤ j → j < q → P j → ⊥
  here : P q

pub gap_none : (P : ℕ → Type 0) (p i : ℕ) → i * 64 ≤ p → Gap P p i
gap_none P p i h = record { gap = λ j k l. absurd (omega arith) }

-- q is the first vertex of number i from p on, and x has the bits of P from there on
module _ {P : ℕ → Type 0} {p i q x : ℕ} (m : Gap P p i) (h : i < row_numbers) (l : p / 64 ≤ i) (e : q ≡ max p (i * 64))
    (is : (j : ℕ) → q ≤ j → j / 64 ≡ i → (bit_at x (j - q) ≡ 1) ↔ P j) where
  gap_number : x ≡ 0 → Gap P p (i + 1)
  gap_number z =
      record {
        gap = λ j k n y. elim (dec_lt j (i * 64)) [
          | yes d ↦ m.gap j k d y
          | no d ↦ no_bit (j - q) (rw z at ((is j (omega arith) (omega arith)).1 y))
        ];
      }

  -- x has no bit of another number
  first_found : (x ≡ 0 → ⊥) → x < 2 ^ 64 → ((t : ℕ) → bit_at x t ≡ 1 → q % 64 + t < 64) → First P p (q + count_trailing_zeros 64 x)
  first_found n small inside =
      let t = count_trailing_zeros 64 x in
      let first : Lowest x t = lowest x small n in
      let within : q % 64 + t < 64 = inside t first.here in
      let back : (q + t) - q ≡ t = omega arith in
      record {
        low = omega arith;
        high = omega arith;
        gap = λ j k n y. elim (dec_lt j (i * 64)) [
          | yes d ↦ m.gap j k d y
          | no d ↦ first.before (j - q) (omega arith) ((is j (omega arith) (omega arith)).1 y)
        ];
        here = (is (q + t) (omega arith) (omega arith)).0 (rw back first.here);
      }

-- number i of row r
abbrev pub number : List ℕ → ℕ → ℕ → ℕ
number w r i = get_or w (r * row_numbers + i) 0

-- ---- one row

-- the bits of that number from q on
abbrev pub rest : List ℕ → ℕ → ℕ → ℕ → ℕ
rest w r i q = number w r i / 2 ^ (q % 64)

module _ (w : List ℕ) (r : ℕ) {p i q : ℕ} (m : Gap (On w r) p i) (h : i < row_numbers) (l : p / 64 ≤ i) (e : q ≡ max p (i * 64)) where
  rest_bit : (t : ℕ) → bit_at (rest w r i q) t ≡ bit_at (number w r i) (q % 64 + t)
  rest_bit t = ap (λ (x : ℕ). x % 2) (shr-shr (number w r i) (q % 64) t)

  rest_is : (j : ℕ) → q ≤ j → j / 64 ≡ i → (bit_at (rest w r i q) (j - q) ≡ 1) ↔ On w r j
  unfolding cell
  rest_is j k d =
      let s : q % 64 + (j - q) ≡ j % 64 = omega arith in
      let is : bit_at (rest w r i q) (j - q) ≡ bit_at (number w r i) (j % 64) = rest_bit (j - q) ∙ ap (bit_at (number w r i)) s in
      rw d (λ y. sym is ∙ y, λ y. is ∙ y)

  pub passed_number : rest w r i q ≡ 0 → Gap (On w r) p (i + 1)
  passed_number = gap_number m h l e rest_is

  pub passed_found : (rest w r i q ≡ 0 → ⊥) → number w r i < 2 ^ 64 → FirstFrom w r p (q + count_trailing_zeros 64 (rest w r i q))
  passed_found n fits =
      let first = first_found m h l e rest_is n (lt_of_le_of_lt (shr_le (number w r i) (q % 64)) fits)
      (λ t y. bit_below 64 (number w r i) (q % 64 + t) fits (sym (rest_bit t) ∙ y)) in
      record { low = first.low; high = first.high; gap = first.gap; here = first.here }

pub passed_all : (w : List ℕ) (r : ℕ) {p i : ℕ} → Gap (On w r) p i → row_numbers ≤ i → NoneFrom w r p
passed_all w r m h = record { gap = λ j k l. m.gap j k (omega arith) }

-- ---- two rows

-- j is in row a and in row b
abbrev pub Both : List ℕ → ℕ → ℕ → ℕ → Type 0
Both w a b j = On w a j × On w b j

-- the bits of number i that are in both
abbrev pub shared : List ℕ → ℕ → ℕ → ℕ → ℕ
shared w a b i = bit_and (number w a i) (number w b i)

module _ (w : List ℕ) (a b : ℕ) {i : ℕ} (m : Gap (Both w a b) 0 i) (h : i < row_numbers) where
  shared_is : (j : ℕ) → i * 64 ≤ j → j / 64 ≡ i → (bit_at (shared w a b i) (j - i * 64) ≡ 1) ↔ Both w a b j
  unfolding cell
  shared_is j k d = let s : j - i * 64 ≡ j % 64 = omega arith in rw (s, d) (and_iff _ _ (j % 64))

  pub both_number : shared w a b i ≡ 0 → Gap (Both w a b) 0 (i + 1)
  both_number = gap_number m h (omega arith) (omega arith) shared_is

  pub both_found : (shared w a b i ≡ 0 → ⊥) → number w a i < 2 ^ 64 → FirstShared w a b (i * 64 + count_trailing_zeros 64 (shared w a b i))
  both_found n small =
      let fits : shared w a b i < 2 ^ 64 = lt_of_le_of_lt (and_le_l (number w a i) (number w b i)) small in
      let first = first_found m h (omega arith) (omega arith) shared_is n fits (λ t y. omega (arith, bit_below 64 (shared w a b i) t fits y)) in
      record { high = first.high; gap = λ j l x y. first.gap j (omega arith) l (x, y); here = first.here }

pub both_all : (w : List ℕ) (a b : ℕ) {i : ℕ} → Gap (Both w a b) 0 i → row_numbers ≤ i → NoneShared w a b
both_all w a b m h = record { gap = λ j l x y. m.gap j (omega arith) (omega arith) (x, y) }
