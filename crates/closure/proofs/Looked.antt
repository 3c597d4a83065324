-- The closing of row a, turn by turn.
use mathlib.Core.List.{List}
use mathlib.Core.Logic.{◌⊎◌, inl, inr, ⊎_elim, ⊎_map, ◌↔◌, ◌≢◌}
use Prim.Native.Nat.{ℕ, ◌<◌}
use native.Mathlib.Omega.{arith}
use native.Mathlib.Decide.{ℕ_discrete}
use Rattle.model.specs.Limits.{most_vertices}
use Rattle.model.specs.Build.Hubs.{Plus, one}
use Rattle.model.proofs.Plus.{plus_then, plus_in, plus_as}
use Rattle.rows.specs.Region.{open_row}
use Rattle.rows.specs.Rows.{cell, On, KeepsRows, Becomes, FirstShared, NoneShared, StepsTo}
use Rattle.rows.proofs.Rows.{cell_lt, cell_cases, keeps_none, keeps_then, keeps_step, keeps_steps}
use Rattle.closure.specs.Turns.{WholeRow, RowClosable, Beside, ClosesRow, TakesIn}
use Rattle.closure.proofs.Sums.{sum, sum_falls}
use Rattle.closure.proofs.Taking.{beside_open}

-- from w to v row a has taken in the steps of every vertex that is not open
pub record Looked (w v : List ℕ) (a : ℕ) : Type 0 where
  pub keeps : KeepsRows w v (Beside a)
  pub old : (b : ℕ) → StepsTo w a b → StepsTo v a b
  pub only : (b : ℕ) → StepsTo v a b → Plus (StepsTo w) a b
  pub looked : (x y : ℕ) → StepsTo w x y → On v open_row x ⊎ StepsTo v a y

-- a vertex whose row is not the one that is closed steps where it did
pub beside_step : {w v : List ℕ} {a x : ℕ} → KeepsRows w v (Beside a) → x < most_vertices → x ≢ a → (b : ℕ) → StepsTo v x b ↔ StepsTo w x b
beside_step h l n = keeps_step h (n, λ e. omega arith)

-- ---- every vertex that steps anywhere is opened
module _ {w w₁ : List ℕ} {d a : ℕ} (r : RowClosable w d a) (j : Becomes w w₁ open_row (On w d)) where
  same : (x b : ℕ) → StepsTo w₁ x b ↔ StepsTo w x b
  same = keeps_steps j.keeps (λ x l e. omega arith)

  pub opened_whole : (x : ℕ) → x < a → WholeRow w₁ x
  opened_whole x h = record { through = λ m b s t. (same x b).1 ((r.whole x h).through m b ((same x m).0 s) ((same m b).0 t)) }

  pub opened_none : Looked w₁ w₁ a
  opened_none =
      record {
        keeps = keeps_none;
        old = λ b s. s;
        only = λ b s. one s;
        looked = λ x y s. inl (j.row.all x s.from (r.domain.starts x y ((same x y).0 s)));
      }

  pub opened_closed : {v : List ℕ} → ClosesRow w₁ v a → ClosesRow w v a
  opened_closed c =
      record {
        keeps = keeps_then (beside_open j) c.keeps;
        is = λ b. (λ s. (plus_as same a b).0 ((c.is b).0 s), λ q. (c.is b).1 ((plus_as same a b).1 q));
      }

-- ---- a turn
module _ {w v : List ℕ} {a : ℕ} (m : Looked w v a) where
  -- if none of row a's vertices is open, row a is closed
  pub looked_all : NoneShared v a open_row → ClosesRow w v a
  looked_all n = record { keeps = m.keeps; is = λ b. (m.only b, plus_in (StepsTo v a) on m.old) }
    where
      on : (x y : ℕ) → StepsTo v a x → StepsTo w x y → StepsTo v a y
      on x y s d = ⊎_elim (λ o. absurd (n.gap x s.to s.on o)) (λ q. q) (m.looked x y d)

  -- p is the first of them
  module _ {p : ℕ} (n : FirstShared v a open_row p) {v' : List ℕ} (k : TakesIn v v' a p) where
    -- the steps of p, as they were first
    own : (b : ℕ) → StepsTo w p b → StepsTo v a b ⊎ StepsTo v p b
    own b s = elim (ℕ_discrete p a) [
      | yes e ↦ inl (m.old b (rw e at s))
      | no d ↦ inr ((beside_step m.keeps n.high d b).1 s)
    ]

    pub looked_more : a < most_vertices → ((x : ℕ) → x < a → WholeRow w x) → Looked w v' a
    looked_more h f =
        record {
          keeps = keeps_then m.keeps k.keeps;
          old = λ b s. (k.is b).1 (inl (m.old b s));
          only = λ b s. ⊎_elim (m.only b) (via b) ((k.is b).0 s);
          looked = λ x y s. ⊎_elim (taken x y s) (λ q. inr ((k.is y).1 (inl q))) (m.looked x y s);
        }
      where
        via : (b : ℕ) → StepsTo v p b → Plus (StepsTo w) a b
        via b s = elim (ℕ_discrete p a) [
          | yes e ↦ m.only b (rw e at s)
          | no d ↦ plus_then (m.only p (record { from = h; to = n.high; on = n.here.0 })) (one ((beside_step m.keeps n.high d b).0 s))
        ]

        -- a vertex that is open no more
        taken : (x y : ℕ) → StepsTo w x y → On v open_row x → On v' open_row x ⊎ StepsTo v' a y
        taken x y s o = ⊎_map (λ q. q) (λ q. (k.is y).1 (⊎_elim (λ e. own y (rw e at s)) (λ g. own y (closed g.0 g.1)) q)) (k.left x s.from o)
          where
            closed : p < a → On v p x → StepsTo w p y
            closed g q = (f p g).through x y ((beside_step m.keeps n.high (λ e. omega arith) x).0 (record { from = n.high; to = s.from; on = q })) s

    pub looked_falls : sum (cell v' open_row) most_vertices < sum (cell v open_row) most_vertices
    looked_falls = sum_falls most_vertices p n.high
        (λ j i. ⊎_elim (λ e. omega arith) (λ e. omega (arith, k.less j i e)) (cell_cases v' open_row j))
        (omega (arith, n.here.1, k.gone, cell_lt v' open_row p))
