-- The entries of one start, staged end by end: row `picked` is the row of the start, less the rows of the ends taken that are earlier than it.
use mathlib.Core.Path.{◌≡◌, sym, ◌∙◌}
use mathlib.Core.Logic.Iff
use mathlib.Core.Logic.{◌⊎◌, ◌↔◌, ◌≢◌}
use mathlib.Core.List.{List}
use Prim.Native.Nat.{ℕ, ◌+◌, ◌≤◌, ◌<◌, min}
use native.Mathlib.Omega.{arith}
use native.Mathlib.Decide.{ℕ_discrete, dec_lt}
use Rattle.std.specs.Prelude.{Option, Some, None}
use Rattle.model.specs.Limits.{most_vertices, hub_unit}
use Rattle.model.specs.Build.Hubs.{joining, Joined}
use Rattle.model.specs.Build.Suffixes.{Some as Below}
use Rattle.model.proofs.Joins.{joining_same, joined_as}
use Rattle.model.proofs.Suffixes.{some_up, some_none}
use Rattle.rows.specs.Region.{picked_row}
use Rattle.rows.specs.Rows.{cell, On, KeepsRows, Becomes, FirstFrom, NoneFrom, StepsTo}
use Rattle.rows.proofs.Rows.{keeps_none, keeps_as, keeps_back, keeps_cell, keeps_steps}
use Rattle.staging.specs.Stage.{Transits, HasTaken, AllRows, Unpicked, Stages}
use Rattle.staging.proofs.Adding.{stages_none, stages_as, stages_over, stages_then, stages_kept, stages_since, stages_within}
use Rattle.closed_starts.proofs.Emitting.{some_also, some_on}

-- ---- steps while row `picked` and the stage change

pub unpicked_steps : {w w' : List ℕ} → KeepsRows w w' Unpicked → (a b : ℕ) → StepsTo w a b ↔ StepsTo w' a b
unpicked_steps h = keeps_steps (keeps_back h) (λ a l. (omega arith, λ e. omega arith))

pub picked_steps : {w w' : List ℕ} → KeepsRows w w' (λ r. r ≢ picked_row) → (a b : ℕ) → StepsTo w a b ↔ StepsTo w' a b
picked_steps h = unpicked_steps (keeps_as (λ r x. x.1) h)

pub transits_as : {w w' : List ℕ} → ((a b : ℕ) → StepsTo w a b ↔ StepsTo w' a b) → Transits w → Transits w'
transits_as same t = record { on = λ x y z m n. (same x z).0 (t.on x y z ((same x y).1 m) ((same y z).1 n)) }

-- s steps to y, and no vertex below n stands between the two
pub record Free (w : List ℕ) (s n y : ℕ) : Type 0 where
  pub step : StepsTo w s y
  pub alone : (v : ℕ) → v < n → StepsTo w s v → StepsTo w v y → ⊥

free_sooner : {w : List ℕ} {s m n y : ℕ} → m ≤ n → Free w s n y → Free w s m y
free_sooner h f = record { step = f.step; alone = λ v l. f.alone v (omega arith) }

-- ---- the vertices left in row `picked`

-- from vertex n on, row `picked` has the vertices that s steps to with none between that is below both s and n
pub record Open (w : List ℕ) (s : ℕ) (w' : List ℕ) (n : ℕ) : Type 0 where
  pub only : (j : ℕ) → n ≤ j → j < most_vertices → On w' picked_row j → Free w s (min s n) j
  pub all : (j : ℕ) → n ≤ j → Free w s (min s n) j → On w' picked_row j

-- from w₁ to w₂ it became so, and nothing else changed
pub record Struck (w : List ℕ) (s : ℕ) (w₁ w₂ : List ℕ) (n : ℕ) : Type 0 where
  pub keeps : KeepsRows w₁ w₂ (λ r. r ≢ picked_row)
  pub left : Open w s w₂ n

-- s and u have an entry
abbrev End : List ℕ → ℕ → ℕ → Type 0
End w s u = Free w s (min s u) u

-- no vertex from n up to q is left
module _ {w w' : List ℕ} {s n q : ℕ} (o : Open w s w' n) (low : n ≤ q) (gap : (j : ℕ) → n ≤ j → j < q → On w' picked_row j → ⊥) where
  -- a vertex passed over stands between s and none that is left: what it steps to was struck out with it
  open_on : Transits w → Open w s w' q
  open_on t =
      record {
        only = λ j h l i.
            let f = o.only j (omega arith) l i in
            record {
              step = f.step;
              alone = λ v k a b. elim (dec_lt v n) [
                | yes m ↦ f.alone v (omega arith) a b
                | no m ↦
                    let g : Free w s (min s n) v = record { step = a; alone = λ z y c d. f.alone z y c (t.on z v j d b) } in
                    gap v (omega arith) (omega arith) (o.all v (omega arith) g)
              ];
            };
        all = λ j h f. o.all j (omega arith) (free_sooner (omega arith) f);
      }

  -- and it is no end
  open_none : (v : ℕ) → n ≤ v → v < q → End w s v → ⊥
  open_none v h l m = gap v h l (o.all v h (free_sooner (omega arith) m))

-- ---- end by end

-- e is the entry for s and an end below n
abbrev pub EndEntries : List ℕ → ℕ → ℕ → ℕ → ℕ → Type 0
EndEntries w s code n = Below n (λ u e. End w s u × (e ≡ joining code s u))

-- the entries of the ends before u are staged
pub record Taking (w : List ℕ) (s code cnt : ℕ) (w' : List ℕ) (k u : ℕ) : Type 0 where
  pub high : u ≤ most_vertices
  pub left : Open w s w' u
  pub stages : Stages w Unpicked (EndEntries w s code u) cnt w' (Some k)

-- row `picked` is row s
pub taking_none : {w w₁ : List ℕ} {s code cnt : ℕ} → s < most_vertices → HasTaken w₁ cnt → Becomes w w₁ picked_row (On w s)
    → Taking w₁ s code cnt w₁ cnt 0
taking_none {w} {w₁} {s} h c b = record { high = omega arith; left = whole; stages = stages_none c some_none }
  where
    row : (j : ℕ) → j < most_vertices → cell w₁ s j ≡ cell w s j
    row = keeps_cell b.keeps s (λ e. omega arith)

    whole : Open w₁ s w₁ 0
    whole =
        record {
          only = λ j _ l o. record { step = record { from = h; to = l; on = row j l ∙ b.row.only j l o }; alone = λ v h. absurd (omega arith) };
          all = λ j _ f. b.row.all j f.step.to (sym (row j f.step.to) ∙ f.step.on);
        }

module _ {w w' : List ℕ} {s code cnt k n : ℕ} (a : Taking w s code cnt w' k n) where
  -- u is the next vertex of row `picked`
  module _ (t : Transits w) (small : code < hub_unit) {u : ℕ} (y : FirstFrom w' picked_row n u) {x : ℕ} (is : x ≡ joining code s u) where
    h : u < most_vertices
    h = y.high

    left : Open w s w' u
    left = open_on a.left y.low y.gap t

    stages : Stages w Unpicked (EndEntries w s code u) cnt w' (Some k)
    stages = stages_as a.stages (λ e. some_on y.low (λ v i l m. open_none a.left y.low y.gap v i l m.0))

    end_here : End w s u
    end_here = left.only u (omega arith) h y.here

    -- the entry of end u is a new one
    new : (e : ℕ) → EndEntries w s code u e → e ≡ x → ⊥
    new e m i =
        let f = end_here.step in
        let q = joining_same _ _ _ _ _ small f.from m.holds.0.step.to f.from h (sym m.holds.1 ∙ i ∙ is) in
        omega (arith, q.1, m.small)

    more : (e : ℕ) → (EndEntries w s code u e ⊎ (e ≡ x)) ↔ EndEntries w s code (u + 1) e
    more e = some_also u e (λ q. (end_here, q ∙ is), λ m. m.1 ∙ sym is)

    -- it comes behind
    module _ {w₁ : List ℕ} {r : Option ℕ} (put : Stages w' AllRows (λ e. e ≡ x) k w₁ r) where
      put_then : Stages w Unpicked (EndEntries w s code (u + 1)) cnt w₁ r
      put_then = stages_as (stages_then stages new (stages_within put (λ q z. z.0))) more

      picked : (j : ℕ) → j < most_vertices → cell w₁ picked_row j ≡ cell w' picked_row j
      picked = keeps_cell put.keeps picked_row (omega arith)

      row_u : (j : ℕ) → j < most_vertices → cell w₁ u j ≡ cell w u j
      row_u = keeps_cell put_then.keeps u (omega arith, λ e. omega arith)

      -- row u is struck out
      pub clear_less : u < s → {w₂ : List ℕ} → Becomes w₁ w₂ picked_row (λ j. On w₁ picked_row j × (On w₁ u j → ⊥)) → Struck w s w₁ w₂ (u + 1)
      clear_less early b =
          record {
            keeps = b.keeps;
            left = record {
              only = λ j g m o.
                  let (y, n) = b.row.only j m o in
                  let f = left.only j (omega arith) m (sym (picked j m) ∙ y) in
                  record {
                    step = f.step;
                    alone = λ v y c d. elim (ℕ_discrete v u) [
                      | yes e ↦ n (row_u j m ∙ rw e at d.on)
                      | no e ↦ f.alone v (omega arith) c d
                    ];
                  };
              all = λ j g f.
                  let m = f.step.to in
                  b.row.all j m (
                    picked j m ∙ left.all j (omega arith) (free_sooner (omega arith) f),
                    λ o. f.alone u (omega arith) end_here.step (record { from = h; to = m; on = sym (row_u j m) ∙ o }),
                  );
            };
          }

      -- or is not earlier than s
      pub clear_late : s ≤ u → Struck w s w₁ w₁ (u + 1)
      clear_late late =
          record {
            keeps = keeps_none;
            left = record {
              only = λ j g m o. free_sooner (omega arith) (left.only j (omega arith) m (sym (picked j m) ∙ o));
              all = λ j g f. picked j f.step.to ∙ left.all j (omega arith) (free_sooner (omega arith) f);
            };
          }

    -- every slot is taken, and u makes one entry more
    pub taking_full : {w₁ : List ℕ} → Stages w' AllRows (λ e. e ≡ x) k w₁ None → Stages w Unpicked (EndEntries w s code most_vertices) cnt w₁ None
    taking_full put = stages_over (put_then put) (λ e. some_up (omega arith))

    pub taking_more : {w₁ w₂ : List ℕ} {m : ℕ} → Stages w' AllRows (λ e. e ≡ x) k w₁ (Some m) → Struck w s w₁ w₂ (u + 1)
        → Taking w s code cnt w₂ m (u + 1)
    taking_more put c =
        record { high = omega arith; left = c.left; stages = stages_kept (put_then put) c.keeps (λ q z. z.1) (λ q z e. omega arith) }

  -- every end is passed
  pub taking_all : NoneFrom w' picked_row n → Stages w Unpicked (EndEntries w s code most_vertices) cnt w' (Some k)
  taking_all y = stages_as a.stages (λ e. some_on a.high (λ v i l m. open_none a.left a.high y.gap v i l m.0))

-- ---- as entries of start s

module _ {w w₁ : List ℕ} {s code : ℕ} (b : KeepsRows w w₁ (λ r. r ≢ picked_row)) where
  ends_joined : (e : ℕ) → EndEntries w₁ s code most_vertices e ↔ Joined (StepsTo w₁) code s e
  ends_joined e = (
    λ m. let (f, is) = m.holds in record { end = m.which; related = f.step; alone = λ v h l. f.alone v (omega arith); is = is },
    λ j. record {
      which = j.end;
      small = j.related.to;
      holds = (record { step = j.related; alone = λ v h. j.alone v (omega arith) (omega arith) }, j.is);
    },
  )

  pub start_stages : {cnt : ℕ} {w₂ : List ℕ} {r : Option ℕ} → Stages w₁ Unpicked (EndEntries w₁ s code most_vertices) cnt w₂ r
      → Stages w Unpicked (Joined (StepsTo w) code s) cnt w₂ r
  start_stages c =
      let same = picked_steps b in
      stages_since
      (stages_as c (λ e. Iff.trans (ends_joined e) (joined_as (λ x y. Iff.symm (same x y)), joined_as same)))
      b
      (λ q x. x.1)
      (λ q l e. omega arith)
