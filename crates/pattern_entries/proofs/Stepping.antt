-- The entries by the step rows: those of starts whose walks are one step, and those of the others once the rows are closed.
use mathlib.Core.Path.{◌≡◌, sym, ◌∙◌}
use mathlib.Core.List.{List}
use mathlib.Core.Logic.Iff
use mathlib.Core.Logic.{◌⊎◌, inl, inr, ⊎_elim, ◌↔◌}
use Prim.Native.Nat.{ℕ, ◌<◌}
use native.Mathlib.Omega.{arith}
use Rattle.std.specs.Prelude.{Option, Some, None}
use Rattle.model.specs.Limits.{most_vertices, hub_unit}
use Rattle.model.specs.Build.Hubs.{EntryBy, Plus, Onward}
use Rattle.model.proofs.Plus.{plus_then, first_step, plus_as}
use Rattle.model.proofs.Joins.{joining_same, joined_entry, entry_joined, joined_as, direct_joined, joined_direct}
use Rattle.rows.specs.Region.{parent_rows, open_row, rest_row}
use Rattle.rows.specs.Rows.{cell, On, InRows, StepsTo}
use Rattle.rows.proofs.Rows.{on_dec, keeps_cell, keeps_steps, keeps_domain}
use Rattle.closure.specs.Closing.{Closable, Closes}
use Rattle.staging.specs.Stage.{Stages, Unpicked, Stageable, RestEntry}
use Rattle.single_starts.specs.Single.{Single, LastStep, SinglesStageable, StagesSingles}
use Rattle.staging.proofs.Adding.{stages_taken, stages_as, stages_over, stages_then, stages_since, stages_within}
use Rattle.pattern_entries.specs.Pattern.{StepsStaged}

module _ {edges w : List ℕ} {d cnt : ℕ} (p : SinglesStageable edges w d cnt) {code : ℕ}
    (small : code < hub_unit) where
  -- the entries by the steps, one or more
  abbrev Wanted : ℕ → Type 0
  Wanted = EntryBy (Plus (StepsTo w)) code

  abbrev Kept : ℕ → Type 0
  Kept = InRows parent_rows open_row

  -- no second step follows a step to where nothing starts
  lone : {x : ℕ} → Single w d x → Onward (StepsTo w) x → ⊥
  lone e o = e.none o.middle o.first (p.domain.starts o.middle o.end o.second)

  of_single : (e : ℕ) → LastStep w d code e → Wanted e
  of_single e l = joined_entry (direct_joined (lone l.single) l.direct)

  module _ {w₁ : List ℕ} {r : Option ℕ} (s : StagesSingles w d code cnt w₁ r) where
    same : (a b : ℕ) → StepsTo w₁ a b ↔ StepsTo w a b
    same = keeps_steps s.stages.keeps (λ a l. (omega arith, λ e. omega arith))

    singles : Stages w Kept (LastStep w d code) cnt w₁ r
    singles = stages_within s.stages (λ q x. (omega (arith, x.most), λ i. omega (arith, x.most)))

  -- ---- they do not fit
  pub filled_over : {w₁ : List ℕ} → StagesSingles w d code cnt w₁ None → StepsStaged w code cnt w₁ None
  filled_over s = record { stages = stages_over (singles s) of_single; starts = λ a b t. (b, (same s a b).0 t) }

  -- ---- the others are closed
  module _ {w₁ : List ℕ} {n : ℕ} (s : StagesSingles w d code cnt w₁ (Some n)) where
    pub closable : Closable w₁ d
    closable =
        record {
          domain = keeps_domain s.stages.keeps (omega (arith, p.domain.most), λ i. omega (arith, p.domain.most))
              (λ a b t. p.domain.starts a b ((same s a b).0 t)) p.domain;
          rest = λ a o.
              let first = (same s a o.middle).0 o.first in
              let second = (same s o.middle o.end).0 o.second in
              s.rest.all a first.from
              (p.domain.starts a o.middle first, λ e. e.none o.middle first (p.domain.starts o.middle o.end second));
        }

    module _ {w₂ : List ℕ} (c : Closes w₁ w₂) where
      led : (x y : ℕ) → StepsTo w₂ x y ↔ Plus (StepsTo w) x y
      led x y = Iff.trans (c.is x y) (plus_as (same s) x y)

      pub stageable : Stageable w₂ n
      stageable =
          record {
            transits = record { on = λ x y z a b. (led x z).1 (plus_then ((led x y).0 a) ((led y z).0 b)) };
            taken = omega (arith, stages_taken s.stages, c.keeps.len);
          }

      rest_kept : {x : ℕ} → x < most_vertices → cell w₂ rest_row x ≡ cell w₁ rest_row x
      rest_kept = keeps_cell c.keeps rest_row (omega arith, λ e. omega arith) _

      -- the vertices in row `rest` are not single, and those that step and are not in it are
      left : {x : ℕ} → x < most_vertices → On w₂ rest_row x → Single w d x → ⊥
      left h o = (s.rest.only _ h (sym (rest_kept h) ∙ o)).1

      gone : {x t : ℕ} → StepsTo w x t → (On w₂ rest_row x → ⊥) → Single w d x
      gone a out =
          record {
            none = λ t b o. out (rest_kept a.from ∙ s.rest.all _ a.from (p.domain.starts _ _ a, λ e. e.none t b o));
          }

      there : (e : ℕ) → (LastStep w d code e ⊎ RestEntry w₂ code e) → Wanted e
      there e = ⊎_elim (of_single e) (λ x. joined_entry (joined_as led x.joined))

      back : (e : ℕ) → Wanted e → LastStep w d code e ⊎ RestEntry w₂ code e
      back e x =
          let (a, j) = entry_joined x in
          let (m, first) = first_step j.related in
          elim (on_dec w₂ rest_row a) [
            | yes o ↦ inr (record { start = a; on = o; joined = joined_as (λ u v. Iff.symm (led u v)) j })
            | no o ↦ let single = gone first o in inl (record { start = a; single = single; direct = joined_direct (lone single) j })
          ]

      apart : (e : ℕ) → LastStep w d code e → RestEntry w₂ code e → ⊥
      apart e l r =
          let a = l.direct in
          let b = r.joined in
          let f = a.related in
          let g = b.related in
          let (q, _) = joining_same _ _ _ _ _ small f.from f.to g.from g.to (sym a.is ∙ b.is) in
          left g.from r.on (rw q at l.single)

      pub filled_all : {w₃ : List ℕ} {r : Option ℕ} → Stages w₂ Unpicked (RestEntry w₂ code) n w₃ r → StepsStaged w code cnt w₃ r
      filled_all {w₃} {r} t = record { stages = stages_as (stages_then (singles s) apart rest) (λ e. (there e, back e)); starts = starts }
        where
          rest : Stages w₁ Kept (RestEntry w₂ code) n w₃ r
          rest = stages_since
              (stages_within t (λ q x. (omega (arith, x.most), λ i. omega (arith, x.most))))
              c.keeps
              (λ q x. (omega (arith, x.least), λ i. omega (arith, x.most)))
              (λ q l. (omega arith, λ i. omega arith))

          starts : (a b : ℕ) → StepsTo w₃ a b → (m : ℕ) × StepsTo w a m
          starts a b x = first_step ((led a b).0 ((keeps_steps t.keeps (λ v l. (omega arith, λ i. omega arith)) a b).0 x))
