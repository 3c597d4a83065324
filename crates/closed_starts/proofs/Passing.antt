-- The entries of the starts in row `rest`, staged start by start.
use mathlib.Core.Path.{sym, ◌∙◌}
use mathlib.Core.Logic.Iff
use mathlib.Core.Logic.{◌↔◌}
use mathlib.Core.List.{List}
use Prim.Native.Nat.{ℕ, ◌+◌, ◌≤◌, ◌<◌}
use native.Mathlib.Omega.{arith}
use native.Mathlib.Decide.{dec_lt}
use Rattle.std.specs.Prelude.{Option, Some, None}
use Rattle.model.specs.Limits.{most_vertices, hub_unit}
use Rattle.model.specs.Build.Hubs.{Joined}
use Rattle.model.specs.Build.Suffixes.{Some as Below}
use Rattle.model.proofs.Joins.{joining_same, joined_as}
use Rattle.model.proofs.Suffixes.{some_none}
use Rattle.rows.specs.Region.{rest_row}
use Rattle.rows.specs.Rows.{On, FirstFrom, NoneFrom, StepsTo}
use Rattle.rows.proofs.Rows.{keeps_none_from, keeps_first}
use Rattle.staging.specs.Stage.{HasTaken, Unpicked, Stages, RestEntry}
use Rattle.staging.proofs.Adding.{stages_none, stages_as, stages_over, stages_then}
use Rattle.closed_starts.proofs.Emitting.{some_also, some_on}
use Rattle.closed_starts.proofs.Striking.{unpicked_steps}

-- e is an entry of start s of row `rest`
abbrev pub RestOf : List ℕ → ℕ → ℕ → ℕ → Type 0
RestOf w code s e = On w rest_row s × Joined (StepsTo w) code s e

-- the entries of the starts before v are staged, or there are more than slots
abbrev pub Passed : (w : List ℕ) (code cnt : ℕ) (w' : List ℕ) (r : Option ℕ) (v : ℕ) → Type 0
Passed w code cnt w' r v = Stages w Unpicked (Below v (RestOf w code)) cnt w' r

pub record Through (w : List ℕ) (code cnt : ℕ) (w' : List ℕ) (n v : ℕ) : Type 0 where
  pub high : v ≤ most_vertices
  pub stages : Passed w code cnt w' (Some n) v

module _ {w : List ℕ} {code cnt : ℕ} where
  pub through_none : HasTaken w cnt → Through w code cnt w cnt 0
  through_none h = record { high = omega arith; stages = stages_none h some_none }

  -- more than fit, with the starts that were not tried yet too
  pub through_over : {w' : List ℕ} {v : ℕ} → Passed w code cnt w' None v → Stages w Unpicked (RestEntry w code) cnt w' None
  through_over a = stages_over a (λ e x. record { start = x.which; on = x.holds.0; joined = x.holds.1 })

  module _ {w₁ : List ℕ} {n v : ℕ} (a : Through w code cnt w₁ n v) where
    -- every start is passed
    pub through_all : NoneFrom w₁ rest_row v → Stages w Unpicked (RestEntry w code) cnt w₁ (Some n)
    through_all x =
        stages_as a.stages (λ e. (
          λ s. record { start = s.which; on = s.holds.0; joined = s.holds.1 },
          λ s. elim (dec_lt s.start v) [
            | yes l ↦ record { which = s.start; small = l; holds = (s.on, s.joined) }
            | no l ↦ absurd (gap.gap s.start (omega arith) s.joined.related.from s.on)
          ],
        ))
      where
        gap : NoneFrom w rest_row v
        gap = keeps_none_from a.stages.keeps (omega arith, λ e. omega arith) x

    -- the entries of the next start are staged
    module _ (small : code < hub_unit) {s : ℕ} (x' : FirstFrom w₁ rest_row v s) {w₂ : List ℕ} {r : Option ℕ}
        (c : Stages w₁ Unpicked (Joined (StepsTo w₁) code s) n w₂ r) where
      x : FirstFrom w rest_row v s
      x = keeps_first a.stages.keeps (omega arith, λ e. omega arith) x'

      same : (e : ℕ) → Joined (StepsTo w₁) code s e ↔ Joined (StepsTo w) code s e
      same e = let f = unpicked_steps a.stages.keeps in (joined_as (λ x y. Iff.symm (f x y)), joined_as f)

      -- none of them is the entry of another start
      apart : (e : ℕ) → Below s (RestOf w code) e → Joined (StepsTo w) code s e → ⊥
      apart e y j =
          let i = y.holds.1 in
          let f = i.related in
          let g = j.related in
          let q = joining_same _ _ _ _ _ small f.from f.to g.from g.to (sym i.is ∙ j.is) in
          omega (arith, q.0, y.small)

      pub through_more : Passed w code cnt w₂ r (s + 1)
      through_more =
          let before = stages_as a.stages (λ e. some_on x.low (λ u h l y. x.gap u h l y.0)) in
          stages_as (stages_then before apart (stages_as c same)) (λ e. some_also s e (λ j. (x.here, j), λ y. y.1))
