-- The rows of one word: filled with where it leads, used, and emptied.
use mathlib.Core.Path.{◌∙◌}
use mathlib.Core.List.{List}
use Prim.Native.Nat.{ℕ, ◌+◌, ◌≤◌}
use native.Mathlib.Omega.{arith}
use native.Mathlib.Decide.{dec_lt}
use lib.ListN.{length}
use Rattle.std.specs.Prelude.{Option}
use Rattle.std.proofs.lemmas.Option.{IfSome_then}
use Rattle.model.specs.Limits.{most_vertices, most_label}
use Rattle.model.specs.Build.Suffixes.{Leaf, Some as Below}
use Rattle.rows.specs.Region.{step_rows, parent_rows, saved_rows}
use Rattle.rows.specs.Rows.{InRows, Empty}
use Rattle.rows.proofs.Rows.{keeps_cell, keeps_row, keeps_empty}
use Rattle.staging.specs.Stage.{Stages}
use Rattle.staging.proofs.Adding.{stages_since, stages_kept, stages_within}
use Rattle.steps.specs.Filling.{Clears}
use Rattle.parent_rows.specs.Steps.{Word, ParentFillable, FillsParent, ParentClearable}
use Rattle.suffixes.specs.Suffixes.{PatternEntry, base_of, NodeStageable, LeafStageable, LeavesStage, LevelStages}

module _ {edges slots word w : List ℕ} {starts : ℕ} {live : List ℕ} {longest cnt : ℕ}
    (n : NodeStageable edges slots word w starts live longest cnt) where
  labels : Word word
  labels = record { short = omega (arith, n.chosen.more, n.chosen.most); labels = n.chosen.labels }

  pub parent_fillable : ParentFillable edges slots word w live
  parent_fillable = record { grouped = n.grouped; word = labels; sources = n.sources; quiet = n.quiet; room = n.listable }

  -- ---- the parent's rows filled
  module _ {w₁ : List ℕ} (f : FillsParent edges word w w₁) where
    pub leaf_stageable : {live' : List ℕ} → length edges ≤ length live' → LeafStageable edges slots word w₁ starts live' longest cnt
    leaf_stageable listable =
        record {
          grouped = n.grouped;
          chosen = n.chosen;
          parent = f.parent;
          least = n.least;
          before = n.before;
          spelled = λ a t k trail. keeps_cell f.keeps starts (omega (arith, n.least)) a k ∙ n.spelled a t k trail;
          quiet = f.quiet;
          listable = listable;
          taken = omega (arith, n.taken, f.keeps.len);
        }

    -- ---- the leaves staged
    abbrev LeafEntries : ℕ → Type 0
    LeafEntries = Below most_label (Leaf longest (PatternEntry edges) word)

    module _ {w₂ : List ℕ} {r : Option ℕ} (v : LeavesStage edges word w₁ most_label LeafEntries cnt w₂ r) where
      pub parent_clearable : ParentClearable edges slots word w₂
      parent_clearable =
          record {
            grouped = n.grouped;
            word = labels;
            long = omega (arith, n.taken, f.keeps.len, v.stages.keeps.len);
            parent = record {
              rows = λ a h. keeps_row v.stages.keeps (record { least = omega arith; most = omega arith }) (f.parent.rows a h);
            };
          }

      -- ---- the parent's rows emptied
      pub level_stages : {w₃ : List ℕ} → Clears w₂ w₃ parent_rows most_vertices → LevelStages edges word w LeafEntries cnt w₃ r
      level_stages {w₃} e =
          record {
            stages = stages_since cleared f.keeps (λ q x. x.least) (λ q h. omega arith);
            children = IfSome_then r v.children (λ _ x. record {
              all = λ c k. record {
                has = λ a t i trail.
                    keeps_cell e.keeps (base_of word + c) (λ y. omega (arith, y.most)) a i ∙ (x.all c k).has a t i trail;
              };
            });
            quiet = record {
              none = λ q j x k on. elim (dec_lt q parent_rows) [
                | yes l ↦ first.none q j (record { least = x.least; most = omega arith }) k on
                | no l ↦ e.empty.none q j (record { least = omega arith; most = omega (arith, x.most) }) k on
              ];
            };
          }
        where
          first : Empty w₃ step_rows most_vertices
          first = keeps_empty e.keeps (λ q x y. omega (arith, x.most, y.least)) v.quiet

          within : Stages w₁ (InRows saved_rows (base_of word)) LeafEntries cnt w₂ r
          within = stages_within v.stages (λ q x. record { least = omega (arith, x.least); most = x.most })

          cleared : Stages w₁ (InRows saved_rows (base_of word)) LeafEntries cnt w₃ r
          cleared = stages_kept within e.keeps (λ q x y. omega (arith, x.least, y.most)) (λ q h y. omega (arith, y.most))
