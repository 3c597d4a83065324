-- The entries of one pattern: filled, staged, emptied.
use mathlib.Core.Path.{◌≡◌, sym, ◌∙◌}
use mathlib.Core.List.{List}
use mathlib.Core.Logic.Iff
use mathlib.Core.Logic.{◌↔◌}
use Prim.Native.Nat.{ℕ, ◌<◌}
use native.Mathlib.Nat.{zero-add}
use native.Mathlib.Omega.{arith}
use Rattle.std.specs.Prelude.{Option}
use Rattle.model.specs.Limits.{most_vertices}
use Rattle.model.proofs.Hubs.{entry_by_as}
use Rattle.model.proofs.Plus.{plus_as}
use Rattle.rows.specs.Region.{step_rows, parent_rows, open_row}
use Rattle.rows.specs.Rows.{cell, Row, InRows, StepsTo}
use Rattle.rows.proofs.Rows.{keeps_cell, keeps_long}
use Rattle.staging.specs.Stage.{Stages}
use Rattle.single_starts.specs.Single.{SinglesStageable}
use Rattle.staging.proofs.Adding.{stages_as, stages_kept, stages_since}
use Rattle.steps.specs.Filling.{Starting, LeadsInto, RowsFillable, FillsRows, SourcesClearable, Clears}
use Rattle.pattern_entries.specs.Pattern.{Led, PatternStageable, PatternStages, LedEntry, StepsStaged}

module _ {edges w : List ℕ} {starts cnt : ℕ} (p : PatternStageable edges w starts cnt) where
  pub fillable : RowsFillable edges w parent_rows step_rows
  fillable =
      record {
        outgoing = p.outgoing;
        long = omega (arith, p.taken);
        from_rows = omega arith;
        to_rows = omega arith;
        apart = λ a b h k e. omega arith;
        empty = p.quiet;
      }

  module _ {w₁ : List ℕ} (f : FillsRows step_rows (LeadsInto edges w parent_rows) w w₁) where
    -- a vertex steps where the edges and the word lead
    steps : (a b : ℕ) → StepsTo w₁ a b ↔ Led edges w a b
    steps a b = (
      λ s. record { from = s.from; to = s.to; via = (row s.from).only b s.to s.on },
      λ l. record { from = l.from; to = l.to; on = (row l.from).all b l.to l.via },
    )
      where
        row : a < most_vertices → Row w₁ a (LeadsInto edges w parent_rows a)
        row h = rw (zero-add a) at (f.rows a h)

    -- an edge of the list starts at every vertex that steps
    start : {a b : ℕ} → StepsTo w₁ a b → Starting edges a
    start {a} {b} s = let v = ((steps a b).0 s).via in record { edge = v.edge; listed = v.listed; from = v.from }

    starts_kept : (x : ℕ) → x < most_vertices → cell w₁ starts x ≡ cell w starts x
    starts_kept = keeps_cell f.keeps starts (λ r. omega (arith, r.most, p.least))

    pub ready : SinglesStageable edges w₁ starts cnt
    ready =
        record {
          domain = record {
            long = keeps_long f.keeps fillable.long;
            least = p.least;
            most = p.most;
            starts = λ x y s. starts_kept x s.from ∙ p.sources.all x s.from (start s);
          };
          small = p.outgoing.small;
          listed = λ s h o. let v = p.sources.only s h (sym (starts_kept s h) ∙ o) in (v.edge, (v.listed, v.from));
          taken = omega (arith, p.taken, f.keeps.len);
        }

    module _ {w₂ : List ℕ} {code : ℕ} {r : Option ℕ} (s : StepsStaged w₁ code cnt w₂ r) where
      pub clearable : SourcesClearable edges w₂ step_rows
      clearable =
          record {
            outgoing = p.outgoing;
            long = omega (arith, p.taken, f.keeps.len, s.stages.keeps.len);
            base_rows = omega arith;
            sources = λ a t h k o. let (_, step) = s.starts a t (record { from = h; to = k; on = rw (zero-add a) at o }) in start step;
          }

      pub pattern_stages : {w₃ : List ℕ} → Clears w₂ w₃ step_rows most_vertices → PatternStages w (LedEntry edges w code) cnt w₃ r
      pattern_stages {w₃} e = record { stages = first; quiet = e.empty }
        where
          by_words : Stages w₁ (InRows parent_rows open_row) (LedEntry edges w code) cnt w₂ r
          by_words = stages_as s.stages (λ x. (entry_by_as (plus_as steps), entry_by_as (λ a b. Iff.symm (plus_as steps a b))))

          cleared : Stages w₁ (InRows parent_rows open_row) (LedEntry edges w code) cnt w₃ r
          cleared = stages_kept by_words e.keeps (λ q x y. omega (arith, x.least, y.most)) (λ q l y. omega (arith, y.most))

          first : Stages w (InRows parent_rows open_row) (LedEntry edges w code) cnt w₃ r
          first = stages_since cleared f.keeps (λ q x y. omega (arith, x.least, y.most)) (λ q l y. omega (arith, y.most))
