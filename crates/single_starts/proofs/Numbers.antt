-- The steps from one start, number by number of its row: in each the lowest bit is staged and cleared.
use mathlib.Core.Path.{◌≡◌, refl, sym, ap, subst, ◌∙◌}
use mathlib.Core.Logic.{◌⊎◌, inl, inr, ⊎_elim, ◌↔◌}
use mathlib.Core.List.{List}
use Prim.Native.Nat.{ℕ, zero, suc, ◌+◌, ◌-◌, ◌*◌, ◌/◌, ◌%◌, ◌^◌, ◌≤◌, ◌<◌}
use native.Mathlib.Omega.{arith}
use native.Mathlib.Nat.{lt_of_le_of_lt}
use native.Mathlib.Decide.{ℕ_discrete, dec_lt}
use lib.Bits.{bit_and, and_le_l}
use lib.Count.{count_trailing_zeros}
use lib.ListN.{get_or}
use Rattle.std.specs.Prelude.{Option, Some, None}
use Rattle.std.specs.Int.{bit_at}
use Rattle.std.proofs.lemmas.Nat.Bits.{bit_at_lowest, bit_at-suc}
use Rattle.model.specs.Limits.{most_vertices, hub_unit}
use Rattle.model.specs.Build.Hubs.{joining, Direct}
use Rattle.model.proofs.Joins.{joining_same}
use Rattle.rows.specs.Region.{row_numbers}
use Rattle.rows.specs.Rows.{cell, On, StepsTo}
use Rattle.rows.proofs.Bits.{no_bit, and_iff, bit_below, Lowest, lowest}
use Rattle.rows.proofs.Rows.{keeps_steps}
use Rattle.staging.specs.Stage.{HasTaken, AllRows, Stages}
use Rattle.single_starts.specs.Single.{StepsWithin}
use Rattle.staging.proofs.Adding.{stages_none, stages_as, stages_over, stages_then}
use Rattle.single_starts.proofs.Stepping.{direct_as, direct_or, direct_more, direct_new}

-- ---- the lowest bit cleared

-- of the bits of x, x - 1 has all but the lowest
pred_bit : (t x i : ℕ) → Lowest x t → bit_at x i ≡ 1 → (bit_at (x - 1) i ≡ 1) ↔ (i ≡ t → ⊥)
pred_bit zero x zero l b = (λ e. absurd (omega (arith, bit_at_lowest x, bit_at_lowest (x - 1))), λ n. absurd (n refl))
pred_bit zero x (suc i) l b =
    let half : (x - 1) / 2 ≡ x / 2 = omega (arith, bit_at_lowest x, l.here) in
    (λ _ e. omega arith, λ _. bit_at-suc (x - 1) i ∙ ap (λ (y : ℕ). bit_at y i) half ∙ sym (bit_at-suc x i) ∙ b)
pred_bit (suc t) x zero l b = absurd (l.before 0 (omega arith) b)
pred_bit (suc t) x (suc i) l b =
    let even : bit_at x 0 ≡ 1 → ⊥ = l.before 0 (omega arith) in
    let half : (x - 1) / 2 ≡ x / 2 - 1 = omega (arith, bit_at_lowest x) in
    let is : bit_at (x - 1) (suc i) ≡ bit_at (x / 2 - 1) i = bit_at-suc (x - 1) i ∙ ap (λ (y : ℕ). bit_at y i) half in
    let low : Lowest (x / 2) t =
    record { here = sym (bit_at-suc x t) ∙ l.here; before = λ j h e. l.before (suc j) (omega arith) (bit_at-suc x j ∙ e) } in
    let (f, g) = pred_bit t (x / 2) i low (sym (bit_at-suc x i) ∙ b) in
    (λ e q. f (sym is ∙ e) (omega arith), λ n. is ∙ g (λ q. n (omega arith)))

-- x & (x - 1)
abbrev pub cleared : ℕ → ℕ
cleared x = bit_and x (x - 1)

cleared_iff : (x t i : ℕ) → Lowest x t → (bit_at (cleared x) i ≡ 1) ↔ ((bit_at x i ≡ 1) × (i ≡ t → ⊥))
cleared_iff x t i l = (
  λ e. let (a, b) = (and_iff x (x - 1) i).0 e in (a, (pred_bit t x i l a).0 b),
  λ e. (and_iff x (x - 1) i).1 (e.0, (pred_bit t x i l e.0).1 e.1),
)

-- ---- one number

-- a steps to b, a vertex of number i whose bit is cleared in x
abbrev pub Taken : List ℕ → ℕ → ℕ → ℕ → ℕ → Type 0
Taken w i x a b = StepsWithin w i a b × (bit_at x (b % 64) ≡ 1 → ⊥)

-- the bits of x are steps from s, and the entries for the others are staged
pub record Numbering (w : List ℕ) (s i code cnt : ℕ) (w' : List ℕ) (n x : ℕ) : Type 0 where
  pub wide : x < 2 ^ 64
  pub left : (k : ℕ) → bit_at x k ≡ 1 → On w s (i * 64 + k)
  pub stages : Stages w AllRows (Direct (Taken w i x) code s) cnt w' (Some n)

module _ (w : List ℕ) (s i : ℕ) where
  -- the bits of number i
  number_bit : (b : ℕ) → b / 64 ≡ i → cell w s b ≡ bit_at (get_or w (s * row_numbers + i) 0) (b % 64)
  unfolding cell
  number_bit b e = rw e refl

  pub numbering_none : {code cnt : ℕ} → HasTaken w cnt → get_or w (s * row_numbers + i) 0 < 2 ^ 64
      → Numbering w s i code cnt w cnt (get_or w (s * row_numbers + i) 0)
  numbering_none c h =
      record {
        wide = h;
        left = λ k b.
            let l = bit_below 64 (get_or w (s * row_numbers + i) 0) k h b in
            let q : (i * 64 + k) % 64 ≡ k = omega arith in
            number_bit (i * 64 + k) (omega arith) ∙ ap (bit_at (get_or w (s * row_numbers + i) 0)) q ∙ b;
        stages = stages_none c (λ e d. let r = d.related in r.1 (sym (number_bit d.end r.0.1) ∙ r.0.0.on));
      }

module _ {w w' : List ℕ} {s i code cnt n x : ℕ} (a : Numbering w s i code cnt w' n x) where
  module _ (hs : s < most_vertices) (hi : i < row_numbers) (hc : code < hub_unit) (more : x ≡ 0 → ⊥) where
    abbrev z : ℕ
    z = count_trailing_zeros 64 x

    first : Lowest x z
    first = lowest x a.wide more

    pub numbering_low : z < 64
    numbering_low = bit_below 64 x z a.wide first.here

    abbrev u : ℕ
    u = i * 64 + z

    low : u % 64 ≡ z
    low = omega (arith, numbering_low)

    step : StepsWithin w i s u
    step = (record { from = hs; to = omega (arith, numbering_low); on = a.left z first.here }, omega (arith, numbering_low))

    module _ {e : ℕ} (is : e ≡ joining code s u) where
      new : (y : ℕ) → Direct (Taken w i x) code s y → y ≡ e → ⊥
      new y d q =
          direct_new u hc hs step.0.to (λ t r. r.0.0.to)
          (λ r. r.1 (ap (bit_at x) low ∙ first.here))
          (rw (q ∙ is) at d)

      one_more : (b : ℕ) → (Taken w i x s b ⊎ (b ≡ u)) ↔ Taken w i (cleared x) s b
      one_more b = (
        ⊎_elim
            (λ r. (r.0, λ q. r.1 ((cleared_iff x z (b % 64) first).0 q).0))
            (λ q. (subst (StepsWithin w i s) (sym q) step, λ p. ((cleared_iff x z (b % 64) first).0 p).1 (ap (λ (v : ℕ). v % 64) q ∙ low))),
        λ r. elim (ℕ_discrete (bit_at x (b % 64)) 1) [
          | no h ↦ inl (r.0, h)
          | yes h ↦ elim (ℕ_discrete (b % 64) z) [
            | yes q ↦ inr (omega (arith, r.0.1))
            | no q ↦ absurd (r.1 ((cleared_iff x z (b % 64) first).1 (h, q)))
          ]
        ],
      )

      -- its entry comes behind
      numbering_then : {w'' : List ℕ} {r : Option ℕ} → Stages w' AllRows (λ y. y ≡ e) n w'' r
          → Stages w AllRows (Direct (Taken w i (cleared x)) code s) cnt w'' r
      numbering_then t = stages_as (stages_then a.stages new t) (λ f. rw is (direct_more u one_more))

      pub numbering_full : {w'' : List ℕ} → Stages w' AllRows (λ y. y ≡ e) n w'' None
          → Stages w AllRows (Direct (StepsWithin w i) code s) cnt w'' None
      numbering_full t = stages_over (numbering_then t) (λ f. direct_as (λ v r. r.0))

      pub numbering_more : {w'' : List ℕ} {m : ℕ} → Stages w' AllRows (λ y. y ≡ e) n w'' (Some m)
          → Numbering w s i code cnt w'' m (cleared x)
      numbering_more t =
          record {
            wide = lt_of_le_of_lt (and_le_l x (x - 1)) a.wide;
            left = λ k b. a.left k ((cleared_iff x z k first).0 b).0;
            stages = numbering_then t;
          }

  -- no bit is left
  pub numbering_all : x ≡ 0 → Stages w AllRows (Direct (StepsWithin w i) code s) cnt w' (Some n)
  numbering_all q = stages_as a.stages (λ e. (direct_as (λ v r. r.0), direct_as (λ v r. (r, λ b. no_bit (v % 64) (rw q at b)))))

-- ---- number by number

-- a steps to b, a vertex of the numbers before i
abbrev pub StepsBelow : List ℕ → ℕ → ℕ → ℕ → Type 0
StepsBelow w i a b = StepsTo w a b × (b / 64 < i)

-- the entries for such steps from s are staged
abbrev pub RowStaged : (w : List ℕ) (s code cnt : ℕ) (w' : List ℕ) (r : Option ℕ) (i : ℕ) → Type 0
RowStaged w s code cnt w' r i = Stages w AllRows (Direct (StepsBelow w i) code s) cnt w' r

pub row_none : {w : List ℕ} {s code cnt : ℕ} → HasTaken w cnt → RowStaged w s code cnt w (Some cnt) 0
row_none c = stages_none c (λ e d. omega (arith, d.related.1))

module _ {w w' : List ℕ} {s code cnt n i : ℕ} (a : RowStaged w s code cnt w' (Some n) i) where
  module _ (hs : s < most_vertices) (hc : code < hub_unit) {w'' : List ℕ} {r : Option ℕ}
      (t : Stages w' AllRows (Direct (StepsWithin w' i) code s) n w'' r) where
    same : (b : ℕ) → StepsTo w' s b ↔ StepsTo w s b
    same = keeps_steps a.keeps (λ q h. omega arith) s

    here : (e : ℕ) → Direct (StepsWithin w' i) code s e ↔ Direct (StepsWithin w i) code s e
    here e = (direct_as (λ b q. ((same b).0 q.0, q.1)), direct_as (λ b q. ((same b).1 q.0, q.1)))

    apart : (e : ℕ) → Direct (StepsBelow w i) code s e → Direct (StepsWithin w i) code s e → ⊥
    apart e p q =
        let (_, l) = joining_same code s p.end s q.end hc hs p.related.0.to hs q.related.0.to (sym p.is ∙ q.is) in
        omega (arith, p.related.1, q.related.1)

    -- the entries of number i come behind
    pub row_then : RowStaged w s code cnt w'' r (i + 1)
    row_then =
        stages_as (stages_then a apart (stages_as t here)) (λ e. direct_or (λ b. (
          ⊎_elim (λ q. (q.0, omega (arith, q.1))) (λ q. (q.0, omega (arith, q.1))),
          λ q. elim (dec_lt (b / 64) i) [ yes h ↦ inl (q.0, h) | no h ↦ inr (q.0, omega (arith, q.1)) ],
        )))

  -- every number is passed
  pub row_all : row_numbers ≤ i → Stages w AllRows (Direct (StepsTo w) code s) cnt w' (Some n)
  row_all h = stages_as a (λ e. (direct_as (λ b q. q.0), direct_as (λ b q. (q, omega (arith, q.to)))))

-- more than fit, with the numbers that were not tried yet too
pub row_over : {w w' : List ℕ} {s code cnt i : ℕ} → RowStaged w s code cnt w' None i
    → Stages w AllRows (Direct (StepsTo w) code s) cnt w' None
row_over a = stages_over a (λ e. direct_as (λ b q. q.0))
