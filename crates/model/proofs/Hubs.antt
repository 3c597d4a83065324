-- The entries of one pattern by their hubs: when the earliest stop is an end of the pair, for any order; and over vertices in their own order.
use mathlib.Core.Path.{◌≡◌, sym}
use mathlib.Core.Logic.{◌⊎◌, inl, inr, ⊎_elim, ◌↔◌, ◌≢◌}
use mathlib.Core.List.{List}
use Prim.Native.Nat.{ℕ, zero, suc, ◌+◌, ◌≤◌, ◌<◌}
use native.Mathlib.Nat.{le_refl, not-suc-le-zero, eq-or-lt_of_le}
use native.Mathlib.Decide.{dec_lt}
use native.Mathlib.Omega.{arith}
use lib.ListN.{length}
use Rattle.model.specs.Lists.{up_to, from}
use Rattle.model.specs.Edges.{Graph}
use Rattle.model.specs.Patterns.{Pattern, code}
use Rattle.model.specs.Walks.{Spells, here, edge, Runs, once, more, Stop}
use Rattle.model.specs.Order.{rank}
use Rattle.model.specs.Entries.{Earliest, out_entry, in_entry, IsEntry}
use Rattle.model.specs.Build.Hubs.{Between, Picked, EntryBy}
use Rattle.model.proofs.Walks.{stop_iff, stop_start, stop_end, runs_to}
use Rattle.model.proofs.Order.{rank_here, rank_there}

-- ---- a walk that runs a pattern with a label starts at a vertex
spells_from : {g : Graph} {l : List ℕ} {s t : ℕ} → 1 ≤ length l → Spells g s l t → s < g.vertices
spells_from h here = absurd (not-suc-le-zero h)
spells_from h (edge e p) = e.from

pub runs_from : {g : Graph} {l : List ℕ} {s t : ℕ} → 1 ≤ length l → Runs g l s t → s < g.vertices
runs_from h (once p) = spells_from h p
runs_from h (more p r) = spells_from h p

-- ---- the earliest stop is the end, or the start
-- no stop between s and t is earlier than u
abbrev pub Alone : Graph → List ℕ → List ℕ → ℕ → ℕ → ℕ → Type 0
Alone g order l s t u = (v : ℕ) → Runs g l s v → Runs g l v t → rank order u ≤ rank order v

module _ {g : Graph} {order l : List ℕ} {s t : ℕ} where
  earliest_of : {u : ℕ} → Runs g l s t → Stop g l s t u → rank order u ≤ rank order s → rank order u ≤ rank order t → Alone g order l s t u → Earliest g order l s t u
  earliest_of {u} r stop a b f = record { stop = stop; least = λ v k. go v (stop_iff.0 k).1 }
    where
      go : (v : ℕ) → Between g l s t v → rank order u ≤ rank order v
      go v (inl e) = rw e a
      go v (inr (inl e)) = rw e b
      go v (inr (inr (p, q))) = f v p q

  pub earliest_end : Earliest g order l s t t ↔ (Runs g l s t × (rank order t ≤ rank order s) × Alone g order l s t t)
  earliest_end = (
    λ e. (e.stop.walk, e.least s (stop_start e.stop.walk), λ v p q. e.least v (stop_iff.1 (e.stop.walk, inr (inr (p, q))))),
    λ (r, h, f). earliest_of r (stop_end r) h (le_refl _) f,
  )

  pub earliest_start : Earliest g order l s t s ↔ (Runs g l s t × (rank order s ≤ rank order t) × Alone g order l s t s)
  earliest_start = (
    λ e. (e.stop.walk, e.least t (stop_end e.stop.walk), λ v p q. e.least v (stop_iff.1 (e.stop.walk, inr (inr (p, q))))),
    λ (r, h, f). earliest_of r (stop_start r) (le_refl _) h f,
  )

  -- where no walk goes on from a vertex between, the two ends are the only stops: the entry follows from their ranks
  pub earliest_lone : ((v : ℕ) → Runs g l s v → Runs g l v t → ⊥) → Runs g l s t
      → (Earliest g order l s t t ↔ rank order t ≤ rank order s) × (Earliest g order l s t s ↔ rank order s ≤ rank order t)
  earliest_lone none r = (
    (λ e. (earliest_end.0 e).1, λ h. earliest_end.1 (r, h, λ v p q. absurd (none v p q))),
    (λ e. (earliest_start.0 e).1, λ h. earliest_start.1 (r, h, λ v p q. absurd (none v p q))),
  )

-- the entries with one pattern
pub data OfPattern (g : Graph) (order l : List ℕ) (e : ℕ) : Type 0 where
  out : (s t : ℕ) → s < g.vertices → t < g.vertices → Earliest g order l s t t → e ≡ out_entry s t l → OfPattern g order l e
  into : (s t : ℕ) → s < g.vertices → t < g.vertices → Earliest g order l s t s → s ≢ t → e ≡ in_entry t s l → OfPattern g order l e

pub entry_pattern : {g : Graph} {order : List ℕ} {e : ℕ} → IsEntry g order e ↔ ((l : List ℕ) × Pattern g.longest l × OfPattern g order l e)
entry_pattern {g} {order} {e} = (there, back)
  where
    there : IsEntry g order e → (l : List ℕ) × Pattern g.longest l × OfPattern g order l e
    there (IsEntry.out s t l q h k) = (l, q.pattern, OfPattern.out s t q.from q.to h k)
    there (IsEntry.into s t l q h n k) = (l, q.pattern, OfPattern.into s t q.from q.to h n k)

    back : (l : List ℕ) × Pattern g.longest l × OfPattern g order l e → IsEntry g order e
    back (l, p, OfPattern.out s t a b h k) = IsEntry.out s t l (record { from = a; to = b; pattern = p }) h k
    back (l, p, OfPattern.into s t a b h n k) = IsEntry.into s t l (record { from = a; to = b; pattern = p }) h n k

-- ---- vertices in their own order

rank_from : (a n v : ℕ) → a ≤ v → v < a + n → a + rank (from a n) v ≡ v
unfolding from
rank_from a zero v h k = absurd (omega arith)
rank_from a (suc n) v h k = ⊎_elim
    (λ e. let z = rank_here (λ x. x) v a (from (suc a) n) (sym e) in omega arith)
    (λ b. let z = rank_there (λ x. x) v a (from (suc a) n) (λ e. omega arith) in omega (arith, rank_from (suc a) n v b (omega arith)))
    (eq-or-lt_of_le h)

pub rank_own : (n v : ℕ) → v < n → rank (up_to n) v ≡ v
rank_own n v h = omega (arith, rank_from 0 n v (omega arith) (omega arith))

pub picked_as : {R S : ℕ → ℕ → Type 0} {side c e : ℕ} → ((a b : ℕ) → R a b ↔ S a b) → Picked R side c e → Picked S side c e
picked_as f p = record {
  hub = p.hub;
  owner = p.owner;
  related = (f _ _).0 p.related;
  late = p.late;
  alone = λ v h i j. p.alone v h ((f _ _).1 i) ((f _ _).1 j);
  is = p.is;
}

pub entry_by_as : {R S : ℕ → ℕ → Type 0} {c e : ℕ} → ((a b : ℕ) → R a b ↔ S a b) → EntryBy R c e → EntryBy S c e
entry_by_as f (EntryBy.out p) = EntryBy.out (picked_as (λ a b. f b a) p)
entry_by_as f (EntryBy.into p) = EntryBy.into (picked_as f p)

module _ (g : Graph) (l : List ℕ) (full : 1 ≤ length l) where
  own_rank : {v : ℕ} → v < g.vertices → rank (up_to g.vertices) v ≡ v
  own_rank {v} h = rank_own g.vertices v h

  -- ranks compare as the vertices do
  leq : {a b : ℕ} → a < g.vertices → b < g.vertices → a ≤ b → rank (up_to g.vertices) a ≤ rank (up_to g.vertices) b
  leq h k q = rw (own_rank h, own_rank k) q

  geq : {a b : ℕ} → a < g.vertices → b < g.vertices → rank (up_to g.vertices) a ≤ rank (up_to g.vertices) b → a ≤ b
  geq h k q = rw (own_rank h, own_rank k) at q

  pub pattern_by : {e : ℕ} → OfPattern g (up_to g.vertices) l e ↔ EntryBy (Runs g l) (code l) e
  pattern_by {e} = (there, back)
    where
      there : OfPattern g (up_to g.vertices) l e → EntryBy (Runs g l) (code l) e
      there (OfPattern.out s t hs ht h k) =
          let (r, a, f) = earliest_end.0 h in
          EntryBy.out (record { hub = t; owner = s; related = r; late = omega (arith, geq ht hs a); alone = λ v b p q. omega (arith, geq ht (runs_from full p) (f v q p)); is = k })
      there (OfPattern.into s t hs ht h n k) =
          let (r, a, f) = earliest_start.0 h in
          EntryBy.into (record { hub = s; owner = t; related = r; late = after (geq hs ht a); alone = λ v b p q. omega (arith, geq hs (runs_to p hs) (f v p q)); is = k })
        where
          after : s ≤ t → s + 1 ≤ t
          after h = ⊎_elim (λ e. absurd (n e)) (λ b. omega arith) (eq-or-lt_of_le h)

      -- not earlier, from not lower
      not_below : {u v : ℕ} → u < g.vertices → v < g.vertices → (v < u → ⊥) → rank (up_to g.vertices) u ≤ rank (up_to g.vertices) v
      not_below {u} {v} hu hv n = leq hu hv (elim (dec_lt v u) [ yes b ↦ absurd (n b) | no b ↦ omega arith ])

      back : EntryBy (Runs g l) (code l) e → OfPattern g (up_to g.vertices) l e
      back (EntryBy.out p) =
          let hs = runs_from full p.related in
          let ht = runs_to p.related hs in
          OfPattern.out p.owner p.hub hs ht
          (earliest_end.1 (p.related, leq ht hs (omega (arith, p.late)), λ v i j. not_below ht (runs_from full j) (λ b. p.alone v b j i))) p.is
      back (EntryBy.into p) =
          let hs = runs_from full p.related in
          let ht = runs_to p.related hs in
          OfPattern.into p.hub p.owner hs ht
          (earliest_start.1 (p.related, leq hs ht (omega (arith, p.late)), λ v i j. not_below hs (runs_to i hs) (λ b. p.alone v b i j))) (λ q. absurd (omega (arith, p.late))) p.is
