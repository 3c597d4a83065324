-- One turn of closing a row.
use mathlib.Core.Path.{◌≡◌, refl, sym, ◌∙◌}
use mathlib.Core.List.{List}
use mathlib.Core.Logic.{◌⊎◌, inl, inr, ⊎_elim, ⊎_map, ◌↔◌, ◌≢◌}
use Prim.Native.Nat.{ℕ, ◌<◌}
use native.Mathlib.Omega.{arith}
use native.Mathlib.Decide.{ℕ_discrete}
use Rattle.model.specs.Limits.{most_vertices}
use Rattle.rows.specs.Region.{open_row}
use Rattle.rows.specs.Rows.{cell, On, KeepsRows, Becomes, StepsTo}
use Rattle.rows.proofs.Rows.{on_dec, keeps_as, keeps_then, keeps_cell, keeps_step}
use Rattle.closure.specs.Turns.{Beside, TakesIn}

pub beside_open : {w w' : List ℕ} {a : ℕ} {P : ℕ → Type 0} → Becomes w w' open_row P → KeepsRows w w' (Beside a)
beside_open b = keeps_as (λ r x. x.1) b.keeps

module _ {w w₁ w₂ : List ℕ} {a p : ℕ} (h : a < most_vertices) (l : p < most_vertices) where
  pub takes_one : Becomes w w₁ a (λ k. On w a k ⊎ On w p k) → Becomes w₁ w₂ open_row (λ k. On w₁ open_row k × (k ≢ p)) → TakesIn w w₂ a p
  takes_one j u =
      record {
        keeps = keeps_then (keeps_as (λ r x. x.0) j.keeps) (beside_open u);
        is = λ b. (
          λ s. ⊎_map (λ o. record { from = h; to = s.to; on = o }) (λ o. record { from = l; to = s.to; on = o }) (j.row.only b s.to ((same b).0 s).on),
          λ s. let to = ⊎_elim (λ t. t.to) (λ t. t.to) s in
              (same b).1 (record { from = h; to = to; on = j.row.all b to (⊎_map (λ t. t.on) (λ t. t.on) s) }),
        );
        gone = λ o. (u.row.only p l o).1 refl;
        less = λ x k o. sym (opens x k) ∙ (u.row.only x k o).0;
        left = λ x k o. elim (ℕ_discrete x p) [ yes e ↦ inr (inl e) | no n ↦ inl (u.row.all x k (opens x k ∙ o, n)) ];
      }
    where
      opens : (x : ℕ) → x < most_vertices → cell w₁ open_row x ≡ cell w open_row x
      opens = keeps_cell j.keeps open_row (λ e. omega arith)

      same : (b : ℕ) → StepsTo w₂ a b ↔ StepsTo w₁ a b
      same = keeps_step u.keeps (λ e. omega arith)

  pub takes_row : p < a → TakesIn w w₁ a p → Becomes w₁ w₂ open_row (λ k. On w₁ open_row k × (On w₁ p k → ⊥)) → TakesIn w w₂ a p
  takes_row d t u =
      record {
        keeps = keeps_then t.keeps (beside_open u);
        is = λ b. (λ s. (t.is b).0 ((same b).0 s), λ s. (same b).1 ((t.is b).1 s));
        gone = λ o. t.gone (u.row.only p l o).0;
        less = λ x k o. t.less x k (u.row.only x k o).0;
        left = λ x k o. ⊎_elim (still x k) inr (t.left x k o);
      }
    where
      same : (b : ℕ) → StepsTo w₂ a b ↔ StepsTo w₁ a b
      same = keeps_step u.keeps (λ e. omega arith)

      still : (x : ℕ) → x < most_vertices → On w₁ open_row x → On w₂ open_row x ⊎ ((x ≡ p) ⊎ ((p < a) × On w p x))
      still x k o = elim (on_dec w₁ p x) [
        | yes y ↦ inr (inr (d, sym (keeps_cell t.keeps p (λ e. omega arith, λ e. omega arith) x k) ∙ y))
        | no n ↦ inl (u.row.all x k (o, n))
      ]
