-- The levels built so far, and how the reply goes on from them.
use mathlib.Core.Path.{◌≡◌, sym, ap, ◌∙◌}
use mathlib.Core.List.{List}
use mathlib.Core.Logic.{⊎_elim}
use Prim.Native.Nat.{ℕ, suc, ◌+◌, ◌-◌, ◌≤◌, ◌<◌, zero-le}
use native.Mathlib.Nat.{le_refl, eq-or-lt_of_le, le_of_suc-le-suc, sub-zero}
use native.Mathlib.Numerals.{add-one}
use native.Mathlib.Omega.{arith}
use lib.ListN.{get_or}
use Rattle.model.specs.Lists.{◌∈◌}
use Rattle.model.specs.States.{Yes, No, Spent}
use Rattle.model.specs.Computed.Edges.{bare}
use Rattle.model.specs.Computed.Levels.{stage, level, reply_from, level_reply}
use Rattle.model.proofs.Levels.{Met}
use Rattle.model.proofs.Search.{reply_yes, reply_no, reply_on}
use Rattle.frontier.specs.Work.{Grown, LedTo}
use Rattle.frontier.specs.Search.{Searchable}
use Rattle.frontier.proofs.Stands.{LevelStands, met_now, stands_next}
use Rattle.level_search.specs.Run.{found_by}

module _ (vertices : ℕ) (edges l : List ℕ) (s : ℕ) where
  module _ (t limit : ℕ) where
    -- c levels are built, none of them had (t, 0), and work memory stands at the last
    pub record LevelsBuilt (w : List ℕ) (lo hi c : ℕ) : Type 0 where
      pub within : c ≤ limit
      pub stands : LevelStands vertices edges l s c w lo hi
      pub unseen : Met (bare vertices edges) l s c t → ⊥
      pub so_far : found_by vertices edges l s t limit ≡ reply_from (bare vertices edges) l t (limit - c) c (stage (bare vertices edges) l s c)

    module _ (p : Searchable vertices edges l s t) {w : List ℕ} {lo hi c : ℕ} (b : LevelsBuilt w lo hi c) (more : c < limit) {w' : List ℕ} {end : ℕ} (g : Grown w hi w' end (LedTo edges l w lo hi)) where
      now_at : LevelStands vertices edges l s (suc c) w' hi end
      now_at = stands_next vertices edges l s p b.stands g

      -- one level more
      so_far' : found_by vertices edges l s t limit ≡ reply_from (bare vertices edges) l t (suc (limit - (c + 1))) c (stage (bare vertices edges) l s c)
      so_far' = let left : limit - c ≡ suc (limit - (c + 1)) = omega arith in
          b.so_far ∙ ap (λ (n : ℕ). reply_from (bare vertices edges) l t n c (stage (bare vertices edges) l s c)) left

      -- (t, 0) is marked if the new level has it
      in_new : get_or w' t 0 ≡ 1 → t ∈ level (bare vertices edges) l s (suc c)
      in_new e =
          let m = now_at.in_met t (omega (arith, p.vertices_small, p.destination)) e in
          ⊎_elim (λ q. rw q at m.stands) (λ q. absurd (b.unseen (record { at = m.at; first = m.first; last = le_of_suc-le-suc q; stands = m.stands }))) (eq-or-lt_of_le m.last)

      unseen' : (get_or w' t 0 ≡ 1 → ⊥) → Met (bare vertices edges) l s (suc c) t → ⊥
      unseen' d m = d (now_at.all_met t m).1

      pub built_yes : get_or w' t 0 ≡ 1 → Yes (c + 1) ≡ found_by vertices edges l s t limit
      built_yes e = ap Yes (add-one c) ∙ sym (so_far' ∙ reply_yes (bare vertices edges) l s t _ c (in_new e))

      pub built_no : end ≤ hi → No (c + 1) ≡ found_by vertices edges l s t limit
      built_no e = ap No (add-one c) ∙ sym (so_far' ∙ reply_no (bare vertices edges) l s t _ c (λ y m. let q = now_at.all_level y m in omega (arith, q.from, q.to)))

      pub built_on : (get_or w' t 0 ≡ 1 → ⊥) → hi < end → LevelsBuilt w' hi end (c + 1)
      built_on d e = record {
        within = omega arith;
        stands = rw add-one now_at;
        unseen = rw add-one (unseen' d);
        so_far = so_far'
            ∙ reply_on (bare vertices edges) l s t _ c (λ m. unseen' d (met_now vertices edges l s m)) (now_at.in_level hi (le_refl hi) e)
            ∙ ap (λ (n : ℕ). reply_from (bare vertices edges) l t (limit - (c + 1)) n (stage (bare vertices edges) l s n)) (sym (add-one c));
      }

    pub built_spent : {w : List ℕ} {lo hi c : ℕ} → LevelsBuilt w lo hi c → limit ≤ c → Spent limit ≡ found_by vertices edges l s t limit
    unfolding reply_from
    built_spent {c = c} b h =
        let none : limit - c ≡ 0 = omega arith in
        let same : limit ≡ c = omega (arith, b.within) in
        ap Spent same ∙ sym (b.so_far ∙ ap (λ (n : ℕ). reply_from (bare vertices edges) l t n c (stage (bare vertices edges) l s c)) none)

    pub built_start : {w : List ℕ} → LevelStands vertices edges l s 0 w 0 1 → LevelsBuilt w 0 1 0
    unfolding level_reply
    built_start a = record {
      within = zero-le;
      stands = a;
      unseen = λ m. omega (arith, m.first, m.last);
      so_far = rw (sub-zero limit);
    }
