-- The starts whose walks are one step, edge by edge of a list: their entries are staged, and they leave row `rest`.
use mathlib.Core.Path.{◌≡◌, refl, sym, ap, subst, ◌∙◌}
use mathlib.Core.Logic.{◌⊎◌, inl, inr, ⊎_elim, ◌↔◌}
use mathlib.Core.List.{List}
use Prim.Native.Nat.{ℕ, ◌+◌, ◌≤◌, ◌<◌}
use native.Mathlib.Omega.{arith}
use native.Mathlib.Decide.{ℕ_discrete}
use lib.ListN.{length, get_or}
use Rattle.std.specs.Prelude.{true, false, Option, Some, None, is_some}
use Rattle.model.specs.Limits.{most_vertices, hub_unit}
use Rattle.model.specs.Lists.{◌∈◌}
use Rattle.model.specs.Edges.{from_of}
use Rattle.model.specs.Build.Hubs.{Direct}
use Rattle.model.proofs.Lists.{get_d_in, in_get_d}
use Rattle.model.proofs.Joins.{joining_same}
use Rattle.rows.specs.Region.{open_row, rest_row}
use Rattle.rows.specs.Rows.{cell, On, KeepsRows, Becomes, FirstInBoth, StepsTo, Domain}
use Rattle.rows.proofs.Rows.{on_dec, keeps_as, keeps_back, keeps_cell, keeps_steps, keeps_domain}
use Rattle.staging.specs.Stage.{HasTaken, AllRows, Stages}
use Rattle.single_starts.specs.Single.{Single, LastStep, Unsplit, SinglesStageable, StagesSingles}
use Rattle.staging.proofs.Adding.{stages_none, stages_as, stages_over, stages_then, stages_kept, stages_since, stages_within}
use Rattle.single_starts.proofs.Stepping.{direct_as}

-- ---- in memory that keeps the rows but `rest`

-- row d is one of the rows kept
child : {d : ℕ} → d < open_row → Unsplit d
child h = (omega arith, λ e. omega arith)

module _ {w w' : List ℕ} (k : KeepsRows w w' Unsplit) where
  steps_kept : (a b : ℕ) → StepsTo w' a b ↔ StepsTo w a b
  steps_kept = keeps_steps k (λ a h. (omega arith, λ e. omega arith))

module _ {w w' : List ℕ} (k : KeepsRows w w' Unsplit) {d : ℕ} (m : d < open_row) where
  single_kept : {s : ℕ} → Single w' d s → Single w d s
  single_kept e = record { none = λ t i o. e.none t ((steps_kept k _ t).1 i) (keeps_cell k d (child m) t i.to ∙ o) }

  last_kept : {code e : ℕ} → LastStep w' d code e → LastStep w d code e
  last_kept l = record { start = l.start; single = single_kept l.single; direct = direct_as (λ t. (steps_kept k _ t).0) l.direct }

-- ---- the starts that have left row `rest`

-- e is the entry for a step from such a start
pub record GoneStep (w : List ℕ) (d code : ℕ) (w' : List ℕ) (e : ℕ) : Type 0 where
  pub last : LastStep w d code e
  pub gone : On w' rest_row last.start → ⊥

-- their entries are staged; the starts of the first i edges are among them
pub record Splitting (edges w : List ℕ) (d code cnt : ℕ) (w' : List ℕ) (n i : ℕ) : Type 0 where
  pub within : (v : ℕ) → v < most_vertices → On w' rest_row v → On w d v
  pub ends : (v : ℕ) → v < most_vertices → On w d v → (On w' rest_row v → ⊥) → Single w d v
  pub seen : (k : ℕ) → k < i → Single w d (from_of (get_or edges k 0)) → On w' rest_row (from_of (get_or edges k 0)) → ⊥
  pub stages : Stages w Unsplit (GoneStep w d code w') cnt w' (Some n)

module _ {edges w : List ℕ} {d code cnt : ℕ} (c : Domain w d) where
  pub splitting_none : {w₀ : List ℕ} → Becomes w₀ w rest_row (On w₀ d) → HasTaken w cnt → Splitting edges w d code cnt w cnt 0
  splitting_none {w₀} b h =
      record {
        within = λ v l o. same v l ∙ b.row.only v l o;
        ends = λ v l o n. absurd (n (there v l o));
        seen = λ k l. absurd (omega arith);
        stages = stages_none h (λ e m. let r = m.last.direct.related in m.gone (there _ r.from (c.starts _ _ r)));
      }
    where
      same : (v : ℕ) → v < most_vertices → cell w d v ≡ cell w₀ d v
      same = keeps_cell b.keeps d (child c.most).1

      there : (v : ℕ) → v < most_vertices → On w d v → On w rest_row v
      there v l o = b.row.all v l (sym (same v l) ∙ o)

  module _ {w' : List ℕ} {n i : ℕ} (a : Splitting edges w d code cnt w' n i) where
    -- the start of edge i stays as it is
    pub splitting_pass : (Single w d (from_of (get_or edges i 0)) → On w' rest_row (from_of (get_or edges i 0)) → ⊥)
        → Splitting edges w d code cnt w' n (i + 1)
    splitting_pass f =
        record {
          within = a.within;
          ends = a.ends;
          seen = λ k l. elim (ℕ_discrete k i) [
            | yes q ↦ subst (λ (j : ℕ). Single w d (from_of (get_or edges j 0)) → On w' rest_row (from_of (get_or edges j 0)) → ⊥) (sym q) f
            | no q ↦ a.seen k (omega arith)
          ];
          stages = a.stages;
        }

    module _ {s : ℕ} (small : s < most_vertices) where
      kept : KeepsRows w w' Unsplit
      kept = a.stages.keeps

      pub splitting_goes_on : (v : Option ℕ) → FirstInBoth w' s d v → is_some v ≡ true → Single w d s → ⊥
      splitting_goes_on None x n e = cc
      splitting_goes_on (Some v) x n e =
          e.none v
          ((steps_kept kept s v).0 (record { from = small; to = x.high; on = x.here.0 }))
          (sym (keeps_cell kept d (child c.most) v x.high) ∙ x.here.1)

      pub splitting_ends : (v : Option ℕ) → FirstInBoth w' s d v → is_some v ≡ false → Single w d s
      splitting_ends None x q =
          record { none = λ t i o. x.gap t i.to ((steps_kept kept s t).1 i).on (keeps_cell kept d (child c.most) t i.to ∙ o) }
      splitting_ends (Some v) x q = cc

      -- no second step follows s, and its entries are not staged yet
      module _ (on : On w' rest_row s) (end : Single w d s) (hc : code < hub_unit) where
        steps : (e : ℕ) → Direct (StepsTo w') code s e ↔ Direct (StepsTo w) code s e
        steps e = (direct_as (λ u. (steps_kept kept s u).0), direct_as (λ u. (steps_kept kept s u).1))

        -- its entries are new
        apart : (e : ℕ) → GoneStep w d code w' e → Direct (StepsTo w) code s e → ⊥
        apart e m i =
            let l = m.last.direct in
            let r = l.related in
            let (q, _) = joining_same code m.last.start l.end s i.end hc r.from r.to small i.related.to (sym l.is ∙ i.is) in
            m.gone (rw q on)

        both : {w'' : List ℕ} {r : Option ℕ} → Stages w' AllRows (Direct (StepsTo w') code s) n w'' r
            → Stages w Unsplit (λ e. GoneStep w d code w' e ⊎ Direct (StepsTo w) code s e) cnt w'' r
        both t = stages_then a.stages apart (stages_within (stages_as t steps) (λ q u. u.0))

        pub splitting_both : {w'' : List ℕ} → Stages w' AllRows (Direct (StepsTo w') code s) n w'' None
            → Stages w Unsplit (LastStep w d code) cnt w'' None
        splitting_both t = stages_over (both t) (λ e. ⊎_elim (λ m. m.last) (λ i. record { start = s; single = end; direct = i }))

        pub splitting_take : ((x : ℕ) → x ∈ edges → from_of x < most_vertices) → i < length edges → s ≡ from_of (get_or edges i 0)
            → {w'' v : List ℕ} {m : ℕ} → Stages w' AllRows (Direct (StepsTo w') code s) n w'' (Some m)
            → Becomes w'' v rest_row (λ k. On w'' rest_row k × (k ≡ s → ⊥)) → Splitting edges w d code cnt v m (i + 1)
        splitting_take starts inside is {w''} {v} t b =
            record {
              within = λ u l o. a.within u l (only u l o).0;
              ends = λ u l o n. elim (ℕ_discrete u s) [ yes q ↦ rw q end | no q ↦ a.ends u l o (λ z. n (all u l z q)) ];
              seen = λ k l e o. elim (ℕ_discrete k i) [
                | yes q ↦ (only (from_of (get_or edges k 0)) (low k l) o).1 (ap (λ (j : ℕ). from_of (get_or edges j 0)) q ∙ sym is)
                | no q ↦ a.seen k (omega arith) e (only (from_of (get_or edges k 0)) (low k l) o).0
              ];
              stages = stages_as (stages_kept (both t) b.keeps (λ q u. u.1) (λ q h e. omega arith)) more;
            }
          where
            only : (u : ℕ) → u < most_vertices → On v rest_row u → On w' rest_row u × (u ≡ s → ⊥)
            only u l o = let z = b.row.only u l o in (sym (keeps_cell t.keeps rest_row (omega arith) u l) ∙ z.0, z.1)

            all : (u : ℕ) → u < most_vertices → On w' rest_row u → (u ≡ s → ⊥) → On v rest_row u
            all u l o n = b.row.all u l (keeps_cell t.keeps rest_row (omega arith) u l ∙ o, n)

            low : (k : ℕ) → k < i + 1 → from_of (get_or edges k 0) < most_vertices
            low k l = starts (get_or edges k 0) (get_d_in edges k (omega arith))

            more : (e : ℕ) → (GoneStep w d code w' e ⊎ Direct (StepsTo w) code s e) ↔ GoneStep w d code v e
            more e = (
              ⊎_elim
                  (λ m. record { last = m.last; gone = λ o. m.gone (only _ m.last.direct.related.from o).0 })
                  (λ i. record { last = record { start = s; single = end; direct = i }; gone = λ o. (only s small o).1 refl }),
              λ m. elim (ℕ_discrete m.last.start s) [
                | yes q ↦ inr (subst (λ (u : ℕ). Direct (StepsTo w) code u e) q m.last.direct)
                | no q ↦ inl (record { last = m.last; gone = λ o. m.gone (all _ m.last.direct.related.from o q) })
              ],
            )

-- ---- from where row d is copied

module _ {w₀ w : List ℕ} {d : ℕ} (m : d < open_row) (b : Becomes w₀ w rest_row (On w₀ d)) where
  since : KeepsRows w₀ w Unsplit
  since = keeps_as (λ r u. u.1) b.keeps

  lasts : {code : ℕ} (e : ℕ) → LastStep w d code e ↔ LastStep w₀ d code e
  lasts e = (last_kept since m, last_kept (keeps_back since) m)

  pub domain_copied : Domain w₀ d → Domain w d
  domain_copied c = keeps_domain since (child m) (λ a t s. c.starts a t ((steps_kept since a t).0 s)) c

  -- more than fit, and all
  pub splitting_over : {code cnt : ℕ} {w' : List ℕ} → Stages w Unsplit (LastStep w d code) cnt w' None
      → StagesSingles w₀ d code cnt w' None
  splitting_over t =
      record { stages = stages_since (stages_over t (λ e. (lasts e).0)) b.keeps (λ q u. u.1) (λ q h e. omega arith); rest = tt }

  pub splitting_all : {edges : List ℕ} {code cnt n i : ℕ} {w' : List ℕ} → SinglesStageable edges w₀ d cnt → length edges ≤ i
      → Splitting edges w d code cnt w' n i → StagesSingles w₀ d code cnt w' (Some n)
  splitting_all {edges} {code = code} {w' = w'} p h a =
      record {
        stages = stages_since (stages_as a.stages whole) b.keeps (λ q u. u.1) (λ q h e. omega arith);
        rest = record {
          only = λ v l o. let z = a.within v l o in (sym (same v l) ∙ z, λ e. none v l z (single_kept (keeps_back since) m e) o);
          all = λ v l r. elim (on_dec w' rest_row v) [
            | yes o ↦ o
            | no o ↦ absurd (r.1 (single_kept since m (a.ends v l (same v l ∙ r.0) o)))
          ];
        };
      }
    where
      same : (v : ℕ) → v < most_vertices → cell w d v ≡ cell w₀ d v
      same = keeps_cell since d (child m)

      -- such a start has left row `rest`
      none : (v : ℕ) → v < most_vertices → On w d v → Single w d v → On w' rest_row v → ⊥
      none v l z e o =
          let (x, (y, q)) = p.listed v l (sym (same v l) ∙ z) in
          let k = in_get_d y in
          let is : from_of (get_or edges k.i 0) ≡ v = ap from_of k.is ∙ q in
          a.seen k.i (omega (arith, k.inside)) (rw is e) (rw is o)

      whole : (e : ℕ) → GoneStep w d code w' e ↔ LastStep w₀ d code e
      whole e = (
        λ g. (lasts e).0 g.last,
        λ g. let j = (lasts e).1 g in
            let r = j.direct.related in
            record { last = j; gone = none _ r.from ((domain_copied p.domain).starts _ _ r) j.single },
      )
