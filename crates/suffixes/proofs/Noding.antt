-- The entries with more labels before a word, child by child.
use mathlib.Core.Path.{◌≡◌, subst, ◌∙◌}
use mathlib.Core.List.{List, ◌∷◌}
use mathlib.Core.Logic.{◌⊎◌, inl, ⊎_elim, ⊎_map}
use Prim.Native.Nat.{ℕ, suc, ◌+◌, ◌≤◌, ◌<◌}
use native.Mathlib.Omega.{arith}
use lib.ListN.{length}
use Rattle.std.specs.Prelude.{false, Option, Some, None, is_some}
use Rattle.model.specs.Limits.{most_label}
use Rattle.model.specs.Build.Suffixes.{Beyond, Leaf, Branch, Some as Below}
use Rattle.model.proofs.Suffixes.{some_none, some_up, some_more, beyond_parts, beyond_long, beyond_none, branches_apart, parts_apart}
use Rattle.rows.specs.Region.{saved_rows}
use Rattle.rows.specs.Rows.{KeepsRows, InRows, NextVertex}
use Rattle.rows.proofs.Rows.{keeps_then, keeps_cell}
use Rattle.staging.specs.Stage.{Stages}
use Rattle.staging.proofs.Adding.{stages_taken, stages_none, stages_as, stages_then, stages_over, stages_within}
use Rattle.parent_rows.proofs.Suffixed.{sources_more}
use Rattle.suffixes.specs.Suffixes.{PatternEntry, base_of, NodeStageable, NodeStages, ChildRow, LevelStages}
use Rattle.suffixes.proofs.Entries.{one_pattern, child_none}
use Rattle.suffixes.proofs.Children.{child_labels}
use Rattle.suffixes.proofs.Labels.{if_any}

-- since the entries with one label before the word were staged, those with more have been for the first c labels
abbrev pub Going : (edges word w₁ : List ℕ) (longest n₁ : ℕ) (w : List ℕ) (r : Option ℕ) (c : ℕ) → Type 0
Going edges word w₁ longest n₁ w r c =
    LevelStages edges word w₁ (Below c (Branch longest (PatternEntry edges) word)) n₁ w r

module _ {edges slots word w₀ : List ℕ} {starts : ℕ} {live : List ℕ} {longest cnt : ℕ}
    (p : NodeStageable edges slots word w₀ starts live longest cnt) where
  abbrev WithAny : ℕ → Type 0
  WithAny = Beyond longest (PatternEntry edges) word

  abbrev WithOne : ℕ → Type 0
  WithOne = Below most_label (Leaf longest (PatternEntry edges) word)

  abbrev WithMore : ℕ → ℕ → Type 0
  WithMore c = Below c (Branch longest (PatternEntry edges) word)

  -- ---- no child is tried

  -- there are more than slots
  pub node_full : {w₁ : List ℕ} → LevelStages edges word w₀ WithOne cnt w₁ None → NodeStages w₀ word WithAny cnt w₁ None
  node_full v = record { stages = stages_over v.stages (λ e s. (beyond_parts word e).0 (inl s)); quiet = v.quiet }

  module _ {w₁ : List ℕ} {n₁ : ℕ} (v : LevelStages edges word w₀ WithOne cnt w₁ (Some n₁)) where
    -- no pattern has more labels
    pub node_short : longest ≤ length word + 1 → NodeStages w₀ word WithAny cnt w₁ (Some n₁)
    node_short h =
        record {
          stages = stages_as v.stages (λ e. (
            λ s. (beyond_parts word e).0 (inl s),
            λ b. ⊎_elim (λ s. s) (λ s. absurd (none e s)) ((beyond_parts word e).1 b),
          ));
          quiet = v.quiet;
        }
      where
        none : (e : ℕ) → WithMore most_label e → ⊥
        none e s = beyond_long (suc s.which ∷ word) e (omega (arith, h)) s.holds

    -- ---- child by child
    pub going_none : Going edges word w₁ longest n₁ w₁ (Some n₁) 0
    going_none = record { stages = stages_none (stages_taken v.stages) some_none; children = v.children; quiet = v.quiet }

    -- both together
    both : {w : List ℕ} {r : Option ℕ} {c : ℕ} → Going edges word w₁ longest n₁ w r c
        → Stages w₀ (InRows saved_rows (base_of word)) (λ e. WithOne e ⊎ WithMore c e) cnt w r
    both {c = c} g = stages_then v.stages (parts_apart (one_pattern p.chosen.most) word most_label c) g.stages

    pub node_over : {w : List ℕ} {c : ℕ} → Going edges word w₁ longest n₁ w None c → c ≤ most_label → NodeStages w₀ word WithAny cnt w None
    node_over g h = record { stages = stages_over (both g) (λ e s. (beyond_parts word e).0 (⊎_map (λ a. a) (some_up h) s)); quiet = g.quiet }

    module _ {w : List ℕ} {n c : ℕ} (g : Going edges word w₁ longest n₁ w (Some n) c) where
      pub node_all : c ≤ most_label → most_label ≤ c → NodeStages w₀ word WithAny cnt w (Some n)
      node_all h k =
          let e : c ≡ most_label = omega arith in
          let all = subst (λ (m : ℕ). Stages w₀ (InRows saved_rows (base_of word)) (λ x. WithOne x ⊎ WithMore m x) cnt w (Some n)) e (both g) in
          record { stages = stages_as all (beyond_parts word); quiet = g.quiet }

      module _ (h : c < most_label) where
        -- the child's row
        child_row : ChildRow edges word w c (base_of word + c)
        child_row = g.children.all c h

        -- a child from which nothing can be spelled
        pub going_skip : (q : Option ℕ) → NextVertex w (base_of word + c) 0 q → is_some q ≡ false
            → Going edges word w₁ longest n₁ w (Some n) (c + 1)
        going_skip (Some q) x e = cc
        going_skip None x e =
            record {
              stages = stages_as g.stages (λ e. (
                λ s. (some_more c e).0 (inl s),
                λ s. ⊎_elim (λ b. b) (λ b. absurd (beyond_none (suc c ∷ word) (child_none child_row x) e b)) ((some_more c e).1 s),
              ));
              children = g.children;
              quiet = g.quiet;
            }

        -- a child that goes on
        since : KeepsRows w₀ w (InRows saved_rows (base_of word))
        since = keeps_then v.stages.keeps g.stages.keeps

        pub child_node : {live' : List ℕ} → length edges ≤ length live' → length word + 1 < longest
            → NodeStageable edges slots (suc c ∷ word) w (base_of word + c) live' longest n
        child_node listable deep =
            record {
              grouped = p.grouped;
              chosen = record { more = omega arith; most = p.chosen.most; labels = child_labels p.chosen h };
              sources = sources_more p.sources p.chosen.labels since child_row.has;
              least = omega arith;
              before = omega arith;
              spelled = child_row.has;
              quiet = g.quiet;
              listable = listable;
              taken = stages_taken g.stages;
            }

        pub going_more : {w' : List ℕ} {r : Option ℕ} → NodeStages w (suc c ∷ word) (Beyond longest (PatternEntry edges) (suc c ∷ word)) n w' r
            → Going edges word w₁ longest n₁ w' r (c + 1)
        going_more {w'} {r} z =
            record {
              stages = stages_as (stages_then g.stages (branches_apart (one_pattern p.chosen.most) word c) branch) (some_more c);
              children = if_any r (record {
                all = λ x i. record {
                  has = λ a t j trail.
                      keeps_cell z.stages.keeps (base_of word + x) (record { least = omega arith; most = omega arith }) a j
                      ∙ (g.children.all x i).has a t j trail;
                };
              });
              quiet = z.quiet;
            }
          where
            branch : Stages w (InRows saved_rows (base_of word)) (Branch longest (PatternEntry edges) word c) n w' r
            branch = stages_within z.stages (λ r x. record { least = x.least; most = omega (arith, x.most) })
