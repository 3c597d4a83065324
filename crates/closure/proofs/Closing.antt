-- The closing of all rows, one after another.
use mathlib.Core.Path.{◌∙◌}
use mathlib.Core.List.{List}
use mathlib.Core.Logic.{◌≢◌}
use Prim.Native.Nat.{ℕ, ◌+◌, ◌≤◌, ◌<◌}
use native.Mathlib.Omega.{arith}
use native.Mathlib.Decide.{ℕ_discrete, dec_lt}
use Rattle.model.specs.Limits.{most_vertices}
use Rattle.model.specs.Build.Hubs.{Plus, one}
use Rattle.model.proofs.Plus.{plus_then, first_step, plus_onward, plus_in, plus_flat, plus_map}
use Rattle.rows.specs.Region.{open_row, rest_row}
use Rattle.rows.specs.Rows.{On, KeepsRows, FirstFrom, NoneFrom, StepsTo, Domain}
use Rattle.rows.proofs.Rows.{keeps_none, keeps_as, keeps_then, keeps_cell, keeps_domain}
use Rattle.closure.specs.Closing.{Closable, Closes}
use Rattle.closure.specs.Turns.{WholeRow, ClosesRow}
use Rattle.closure.proofs.Looked.{beside_step}

-- from w to v the rows before a have been closed
pub record Closing (w v : List ℕ) (a : ℕ) : Type 0 where
  pub keeps : KeepsRows w v (λ r. (most_vertices ≤ r) × (r ≢ open_row))
  pub old : (x b : ℕ) → StepsTo w x b → StepsTo v x b
  pub only : (x b : ℕ) → StepsTo v x b → Plus (StepsTo w) x b
  pub whole : (x : ℕ) → x < a → WholeRow v x

pub closing_none : (w : List ℕ) → Closing w w 0
closing_none w = record { keeps = keeps_none; old = λ x b s. s; only = λ x b s. one s; whole = λ x h. absurd (omega arith) }

-- a whole row has all that one step or more lead to
whole_all : {w : List ℕ} {a b : ℕ} → WholeRow w a → Plus (StepsTo w) a b → StepsTo w a b
whole_all {w} {a} f = plus_in (StepsTo w a) f.through (λ m s. s)

module _ {w v : List ℕ} {a : ℕ} (m : Closing w v a) where
  pub closing_domain : {d : ℕ} → Domain w d → Domain v d
  closing_domain {d} c =
      keeps_domain m.keeps (omega (arith, c.least), λ e. omega (arith, c.most)) (λ x b s. c.starts x _ (first_step (m.only x b s)).1) c

  -- a vertex with two steps from it has two first, so it is in row `rest`; the row of any other is whole as it is
  rests : {d x y b : ℕ} → Closable w d → StepsTo v x y → StepsTo v y b → On v rest_row x
  rests {x = x} c s r =
      keeps_cell m.keeps rest_row (omega arith, λ e. omega arith) x s.from ∙ c.rest x (plus_onward (m.only _ _ s) (m.only _ _ r))

  -- a vertex that is not in row `rest` is whole as it is
  module _ {d : ℕ} (c : Closable w d) where
    rests_all : (n : ℕ) → ((x : ℕ) → a ≤ x → x < n → On v rest_row x → ⊥) → (x : ℕ) → x < n → WholeRow v x
    rests_all n none x h = elim (dec_lt x a) [
      | yes l ↦ m.whole x l
      | no l ↦ record { through = λ y b s r. absurd (none x (omega arith) h (rests c s r)) }
    ]

    pub closing_on : {b : ℕ} → FirstFrom v rest_row a b → Closing w v b
    closing_on n = record { keeps = m.keeps; old = m.old; only = m.only; whole = rests_all _ n.gap }

    pub closing_all : NoneFrom v rest_row a → Closes w v
    closing_all n =
        record {
          keeps = m.keeps;
          is = λ x b. (
            m.only x b,
            λ q. whole_all (rests_all most_vertices n.gap x (first_step q).1.from) (plus_map m.old q),
          );
        }

  pub closing_more : {v' : List ℕ} → a < most_vertices → ClosesRow v v' a → Closing w v' (a + 1)
  closing_more {v'} h t =
      record {
        keeps = keeps_then m.keeps (keeps_as (λ r x. (λ e. omega (arith, x.0), x.1)) t.keeps);
        old = λ x b s. grows x b (m.old x b s);
        only = λ x b s. plus_flat m.only (back x b s);
        whole = λ x l. record { through = λ y b s r. all x b l (plus_then (back x y s) (back y b r)) };
      }
    where
      grows : (x b : ℕ) → StepsTo v x b → StepsTo v' x b
      grows x b s = elim (ℕ_discrete x a) [
        | yes e ↦ rw e ((t.is b).1 (one (rw e at s)))
        | no n ↦ (beside_step t.keeps s.from n b).1 s
      ]

      back : (x b : ℕ) → StepsTo v' x b → Plus (StepsTo v) x b
      back x b s = elim (ℕ_discrete x a) [
        | yes e ↦ rw e ((t.is b).0 (rw e at s))
        | no n ↦ one ((beside_step t.keeps s.from n b).0 s)
      ]

      all : (x b : ℕ) → x < a + 1 → Plus (StepsTo v) x b → StepsTo v' x b
      all x b l q = elim (ℕ_discrete x a) [
        | yes e ↦ rw e ((t.is b).1 (rw e at q))
        | no n ↦ grows x b (whole_all (m.whole x (omega arith)) q)
      ]
