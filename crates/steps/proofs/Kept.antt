-- One of several rows written, and rows emptied one after another.
use mathlib.Core.Path.{sym, ◌∙◌}
use mathlib.Core.List.{List}
use Prim.Native.Nat.{ℕ, ◌+◌, ◌<◌}
use native.Mathlib.Omega.{arith}
use native.Mathlib.Decide.{ℕ_discrete}
use Rattle.rows.specs.Rows.{KeepsRows, InRows, Becomes}
use Rattle.rows.proofs.Rows.{keeps_as, keeps_then, keeps_cell}
use Rattle.steps.specs.Filling.{Clears}

pub within_at : {base n : ℕ} (c : ℕ) → c < n → InRows base (base + n) (base + c)
within_at c h = record { least = omega arith; most = omega arith }

-- one of n rows is written
pub keeps_one : {w w' : List ℕ} {base n c : ℕ} {P : ℕ → Type 0} → c < n → Becomes w w' (base + c) P → KeepsRows w w' (λ r. InRows base (base + n) r → ⊥)
keeps_one {c = c} h b = keeps_as (λ r x e. x (rw e (within_at c h))) b.keeps

-- ---- rows emptied one after another

pub clears_more : {w w' w'' : List ℕ} {base n : ℕ} → Clears w w' base n → Becomes w' w'' (base + n) (λ _. ⊥) → Clears w w'' base (n + 1)
clears_more {w} {w'} {w''} {base} {n} h b =
    record {
      keeps = keeps_then (keeps_as (λ r x a. x (record { least = a.least; most = omega (arith, a.most) })) h.keeps) (keeps_one (omega arith) b);
      empty = record {
        none = λ r j a l e. elim (ℕ_discrete r (base + n)) [
          | yes q ↦ b.row.only j l (rw q at e)
          | no q ↦ h.empty.none r j (record { least = a.least; most = omega (arith, a.most) }) l (sym (keeps_cell b.keeps r q j l) ∙ e)
        ];
      };
    }
