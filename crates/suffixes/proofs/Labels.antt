-- The entries with one label before a word, label after label.
use mathlib.Core.Path.{◌≡◌, subst, ◌∙◌}
use mathlib.Core.List.{List}
use Prim.Native.Nat.{ℕ, ◌+◌, ◌≤◌, ◌<◌}
use native.Mathlib.Omega.{arith}
use native.Mathlib.Decide.{dec_lt}
use lib.ListN.{length}
use Rattle.std.specs.Prelude.{Option, Some, None, OnSome}
use Rattle.model.specs.Limits.{most_label}
use Rattle.model.specs.Build.Suffixes.{Leaf, Some as Below}
use Rattle.model.proofs.Suffixes.{some_none, some_up, some_more, leaves_apart}
use Rattle.rows.proofs.Rows.{keeps_cell}
use Rattle.staging.proofs.Adding.{stages_taken, stages_none, stages_as, stages_then, stages_over, stages_within}
use Rattle.suffixes.specs.Suffixes.{PatternEntry, base_of, ChildRow, LeafStageable, LeafStages, LeavesStage}
use Rattle.suffixes.proofs.Entries.{one_pattern}
use Rattle.suffixes.proofs.Leafing.{stageable_kept}

-- where a fact holds in either case
pub if_any : (r : Option ℕ) {P : Type 0} → P → OnSome r P
if_any None p = tt
if_any (Some n) p = p

module _ {edges slots word w : List ℕ} {starts : ℕ} {live : List ℕ} {longest cnt : ℕ}
    (l : LeafStageable edges slots word w starts live longest cnt) where
  -- the entries with one of the first c labels before the word, staged
  abbrev pub LeavesTo : ℕ → List ℕ → Option ℕ → Type 0
  LeavesTo c w' r = LeavesStage edges word w c (Below c (Leaf longest (PatternEntry edges) word)) cnt w' r

  pub leaves_none : LeavesTo 0 w (Some cnt)
  leaves_none = record { stages = stages_none l.taken some_none; children = record { all = λ c h. absurd (omega arith) }; quiet = l.quiet }

  module _ {w' : List ℕ} {c n : ℕ} (v : LeavesTo c w' (Some n)) where
    pub leaves_stageable : {live' : List ℕ} → length edges ≤ length live' → LeafStageable edges slots word w' starts live' longest n
    leaves_stageable listable = stageable_kept l v.stages.keeps (λ q x. x) v.quiet listable (stages_taken v.stages)

    pub leaves_more : {w'' : List ℕ} {r : Option ℕ} → LeafStages edges word w' c (Leaf longest (PatternEntry edges) word c) n w'' r
        → LeavesTo (c + 1) w'' r
    leaves_more {w''} {r} f =
        record {
          stages = stages_as
              (stages_then v.stages (leaves_apart (one_pattern l.chosen.most) word c)
              (stages_within f.stages (λ q x. record { least = x.least; most = omega (arith, x.most) })))
              (some_more c);
          children = if_any r (record { all = child });
          quiet = f.quiet;
        }
      where
        child : (x : ℕ) → x < c + 1 → ChildRow edges word w'' x (base_of word + x)
        child x k = elim (dec_lt x c) [
          | yes i ↦ record {
            has = λ a t j trail.
                keeps_cell f.stages.keeps (base_of word + x) (record { least = omega arith; most = omega arith }) a j
                ∙ (v.children.all x i).has a t j trail;
          }
          | no i ↦ let e : c ≡ x = omega arith in subst (λ (y : ℕ). ChildRow edges word w'' y (base_of word + y)) e f.child
        ]

    pub leaves_all : c ≤ most_label → most_label ≤ c → LeavesTo most_label w' (Some n)
    leaves_all h k = let e : c ≡ most_label = omega arith in subst (λ (m : ℕ). LeavesTo m w' (Some n)) e v

  -- more than fit, with the labels that were not tried yet too
  pub leaves_over : {w' : List ℕ} {c : ℕ} → LeavesTo c w' None → c ≤ most_label → LeavesTo most_label w' None
  leaves_over v h = record { stages = stages_over v.stages (λ e. some_up h); children = tt; quiet = v.quiet }
