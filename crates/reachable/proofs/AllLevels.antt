-- All levels: work memory stands at some level while the flood goes on, and once that level is empty its marks say what walks run to.
use mathlib.Core.Path.{◌∙◌}
use mathlib.Core.Bool.{Bool, false}
use mathlib.Core.List.{List}
use Prim.Native.Nat.{ℕ, zero, suc, ◌+◌, ◌≤◌, ◌<◌}
use native.Mathlib.Omega.{arith}
use native.Mathlib.Decide.{ℕ_discrete}
use lib.ListN.{length, get_or, set}
use lib.Seq.{get_or-set_same, get_or-set_other}
use lib.Dec.{eqb}
use Rattle.model.specs.Lists.{◌∈◌}
use Rattle.model.specs.Tables.{Tabulates}
use Rattle.model.specs.Walks.{Runs}
use Rattle.model.specs.Computed.Edges.{bare}
use Rattle.model.specs.Computed.Levels.{level}
use Rattle.model.proofs.Tests.{Tests, test_agree, test_map, test_eq}
use Rattle.model.proofs.Levels.{Met, level_iff, level_runs, level_all}
use Rattle.model.proofs.Search.{test_runs}
use Rattle.frontier.specs.Work.{Grown, LedTo}
use Rattle.frontier.specs.Search.{Searchable}
use Rattle.reachable.specs.Reached.{Flooded}
use Rattle.frontier.proofs.Stands.{LevelStands, stands_next}

module _ (vertices : ℕ) (edges l : List ℕ) (s : ℕ) where
  -- work memory stands at some level
  pub record Flooding (w : List ℕ) (lo hi : ℕ) : Type 0 where
    pub c : ℕ
    pub stands : LevelStands vertices edges l s c w lo hi

  module _ {d : ℕ} (p : Searchable vertices edges l s d) {w : List ℕ} {lo hi : ℕ} (f : Flooding w lo hi) where
    pub flood_on : {w' : List ℕ} {end : ℕ} → Grown w hi w' end (LedTo edges l w lo hi) → Flooding w' hi end
    flood_on g = record { c = suc f.c; stands = stands_next vertices edges l s p f.stands g }

    module _ (over : hi ≤ lo) where
      -- the level is empty, and so is the next
      empty : (z : ℕ) → ¬ (z ∈ level (bare vertices edges) l s (suc f.c))
      empty z m =
          let (x, k, _) = ((level_iff (bare vertices edges) l s f.c z).0 m).source in
          let q = f.stands.all_level x k in
          omega (arith, q.from, q.to)

      met_runs : (t : ℕ) → t < vertices → Met (bare vertices edges) l s f.c t → Runs (bare vertices edges) l s t
      met_runs t h m = go m.at m.first m.stands
        where
          go : (i : ℕ) → 1 ≤ i → t ∈ level (bare vertices edges) l s i → Runs (bare vertices edges) l s t
          go zero a k = absurd (omega arith)
          go (suc i) a k = level_runs (bare vertices edges) l s p.vertices_small p.short.least p.start i t h k

      test_mark : (t : ℕ) → t < vertices → Tests (eqb (get_or w t 0) 1) (Runs (bare vertices edges) l s t)
      test_mark t h = test_map
          (λ e. met_runs t h (f.stands.in_met t (omega (arith, p.vertices_small)) e))
          (λ r. (f.stands.all_met t (level_all (bare vertices edges) l p.vertices_small p.short.least s f.c t empty r)).1)
          (test_eq (get_or w t 0) 1)

      pub flood_over : Flooded vertices edges l s w
      flood_over = record {
        is = λ t h. test_agree (test_mark t h) (test_runs (bare vertices edges) l p.vertices_small p.short.least s t p.start h);
      }

-- ---- the marks as a table

-- one mark more
pub tabulates_more : {v : ℕ} {table : List Bool} {test : ℕ → Bool} → v < length table → Tabulates v table test
    → Tabulates (v + 1) (set table v (test v)) test
tabulates_more {v} {table} {test} h t = record {
  each = λ u k. elim (ℕ_discrete u v) [
    | yes e ↦ rw e (get_or-set_same table v (test v) false h)
    | no d ↦ get_or-set_other table v u (test v) false d ∙ t.each u (omega arith)
  ];
}
