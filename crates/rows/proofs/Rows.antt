-- Rows, for callers: what a row says, what is kept, and what that leaves as it was.
use mathlib.Core.Path.{◌≡◌, refl, sym, ap, subst, ◌∙◌}
use mathlib.Core.Logic.{◌⊎◌, inl, inr, ◌↔◌}
use mathlib.Core.List.{List}
use Prim.Native.Nat.{ℕ, ◌+◌, ◌*◌, ◌/◌, ◌%◌, ◌^◌, ◌≤◌, ◌<◌}
use native.Mathlib.Omega.{arith}
use native.Mathlib.Decide.{ℕ_discrete}
use lib.ListN.{length}
use Rattle.model.specs.Limits.{most_vertices, least_work}
use Rattle.rows.specs.Region.{row_numbers}
use Rattle.rows.specs.Rows.{cell, On, Has, Row, KeepsRows, InRows, Empty, Becomes, FirstFrom, NoneFrom, StepsTo, Domain}

-- ---- one memory

module _ (w : List ℕ) (r j : ℕ) where
  pub cell_lt : cell w r j < 2
  unfolding cell
  cell_lt = omega arith

  pub cell_cases : (cell w r j ≡ 0) ⊎ (cell w r j ≡ 1)
  cell_cases = elim (ℕ_discrete (cell w r j) 1) [ yes e ↦ inr e | no n ↦ inl (omega (arith, cell_lt)) ]

  pub on_dec : Dec (On w r j)
  on_dec = ℕ_discrete (cell w r j) 1

module _ {w : List ℕ} {r : ℕ} {P Q : ℕ → Type 0} where
  pub row_as : ((j : ℕ) → j < most_vertices → P j ↔ Q j) → Row w r P → Row w r Q
  row_as f p = record { only = λ j h e. (f j h).0 (p.only j h e); all = λ j h q. p.all j h ((f j h).1 q) }

pub becomes_as : {w w' : List ℕ} {r : ℕ} {P Q : ℕ → Type 0} → Becomes w w' r P → ((j : ℕ) → j < most_vertices → P j ↔ Q j) → Becomes w w' r Q
becomes_as b f = record { keeps = b.keeps; row = row_as f b.row }

-- ---- two memories

pub keeps_none : {w : List ℕ} {K : ℕ → Type 0} → KeepsRows w w K
keeps_none = record { len = refl; same = λ k n. refl }

module _ {w w' : List ℕ} {K : ℕ → Type 0} where
  -- fewer rows are kept
  pub keeps_as : {L : ℕ → Type 0} → ((r : ℕ) → L r → K r) → KeepsRows w w' K → KeepsRows w w' L
  keeps_as f h = record { len = h.len; same = λ k n. h.same k (f _ n) }

  pub keeps_then : {w'' : List ℕ} → KeepsRows w w' K → KeepsRows w' w'' K → KeepsRows w w'' K
  keeps_then h g = record { len = g.len ∙ h.len; same = λ k n. g.same k n ∙ h.same k n }

  pub keeps_back : KeepsRows w w' K → KeepsRows w' w K
  keeps_back h = record { len = sym h.len; same = λ k n. sym (h.same k n) }

  module _ (h : KeepsRows w w' K) where
    pub keeps_long : least_work ≤ length w → least_work ≤ length w'
    keeps_long l = omega (arith, h.len)

    pub keeps_has : {q : ℕ} → Has w q → Has w' q
    keeps_has x = record { row = x.row; long = keeps_long x.long }

    pub keeps_cell : (r : ℕ) → K r → (j : ℕ) → j < most_vertices → cell w' r j ≡ cell w r j
    unfolding cell
    keeps_cell r x j l =
        let row : r ≡ (r * row_numbers + j / 64) / row_numbers = omega arith in
        ap (λ (v : ℕ). v / 2 ^ (j % 64) % 2) (h.same (r * row_numbers + j / 64) (subst K row x))

    pub keeps_row : {r : ℕ} {P : ℕ → Type 0} → K r → Row w r P → Row w' r P
    keeps_row {r} x p =
        record { only = λ j l e. p.only j l (sym (keeps_cell r x j l) ∙ e); all = λ j l q. keeps_cell r x j l ∙ p.all j l q }

    pub keeps_none_from : {r p : ℕ} → K r → NoneFrom w' r p → NoneFrom w r p
    keeps_none_from {r} x n = record { gap = λ j k l e. n.gap j k l (keeps_cell r x j l ∙ e) }

    pub keeps_first : {r p q : ℕ} → K r → FirstFrom w' r p q → FirstFrom w r p q
    keeps_first {r} x n =
        record {
          low = n.low;
          high = n.high;
          gap = λ j k l e. n.gap j k l (keeps_cell r x j (omega (arith, n.high)) ∙ e);
          here = sym (keeps_cell r x _ n.high) ∙ n.here;
        }

    pub keeps_empty : {base n : ℕ} → ((r : ℕ) → InRows base (base + n) r → K r) → Empty w base n → Empty w' base n
    keeps_empty f e = record { none = λ r j x l o. e.none r j x l (sym (keeps_cell r (f r x) j l) ∙ o) }

    pub keeps_step : {a : ℕ} → K a → (b : ℕ) → StepsTo w' a b ↔ StepsTo w a b
    keeps_step {a} x b = (
      λ s. record { from = s.from; to = s.to; on = sym (keeps_cell a x b s.to) ∙ s.on },
      λ s. record { from = s.from; to = s.to; on = keeps_cell a x b s.to ∙ s.on },
    )

    pub keeps_steps : ((a : ℕ) → a < most_vertices → K a) → (a b : ℕ) → StepsTo w' a b ↔ StepsTo w a b
    keeps_steps f a b = (λ s. (keeps_step (f a s.from) b).0 s, λ s. (keeps_step (f a s.from) b).1 s)

    pub keeps_domain : {d : ℕ} → K d → ((a b : ℕ) → StepsTo w' a b → On w d a) → Domain w d → Domain w' d
    keeps_domain {d} x f c =
        record { long = keeps_long c.long; least = c.least; most = c.most; starts = λ a b s. keeps_cell d x a s.from ∙ f a b s }
