-- The entries that a pattern has by where it leads: an entry has one pattern, a word that leads nowhere ends none, and over a graph they
-- are the determined ones.
use mathlib.Core.Path.{◌≡◌, refl}
use mathlib.Core.Bool.{true}
use mathlib.Core.Logic.Iff
use mathlib.Core.Logic.{◌↔◌}
use mathlib.Core.List.Memᴰ
use mathlib.Core.List.{List, [], ◌∷◌, ◌++◌}
use Prim.Native.Nat.{ℕ, suc, ◌≤◌, ◌<◌}
use native.Mathlib.Nat.{not-suc-le-zero}
use native.Mathlib.Omega.{arith}
use lib.ListN.{length}
use Rattle.model.specs.Limits.{most_vertices, most_label, most_longest}
use Rattle.model.specs.Lists.{◌∈◌, up_to}
use Rattle.model.specs.Edges.{Graph, edge_number}
use Rattle.model.specs.Patterns.{Pattern, code}
use Rattle.model.specs.Walks.{Spells, Runs, once, more}
use Rattle.model.specs.Entries.{IsEntry, entry_of}
use Rattle.model.specs.Computed.Edges.{edge?}
use Rattle.model.specs.Build.Hubs.{EntryBy, Plus}
use Rattle.model.specs.Build.Suffixes.{With, Beyond}
use Rattle.model.proofs.Tests.{test_yields}
use Rattle.model.proofs.Patterns.{code_below}
use Rattle.model.proofs.Walks.{runs_to}
use Rattle.model.proofs.Edges.{test_edge, edge_fields}
use Rattle.model.proofs.Hubs.{entry_by_as, pattern_by, entry_pattern, OfPattern, runs_from}
use Rattle.model.proofs.Suffixes.{all_beyond}
use Rattle.model.proofs.Codes.{code_inj}
use Rattle.rows.specs.Rows.{NoneFrom}
use Rattle.model.proofs.Plus.{plus_from}
use Rattle.parent_rows.specs.Steps.{Trail}
use Rattle.parent_rows.proofs.Trails.{trail_cut, trail_to, trail_spells, spells_trail}
use Rattle.suffixes.specs.Suffixes.{Spans, PatternEntry, ChildRow}

-- ---- an entry has one pattern

plus_ends : {edges l : List ℕ} {a b : ℕ} → Plus (Spans edges l) a b → (a < most_vertices) × (b < most_vertices)
plus_ends (Plus.one h) = (h.from, h.to)
plus_ends (Plus.more h p) = (h.from, (plus_ends p).1)

-- the number that an entry is
record Numbered (c e : ℕ) : Type 0 where
  side : ℕ
  owner : ℕ
  hub : ℕ
  owner_small : owner < most_vertices
  hub_small : hub < most_vertices
  is : e ≡ entry_of side owner hub c

numbered : (edges l : List ℕ) {e : ℕ} → PatternEntry edges l e → Numbered (code l) e
numbered edges l (EntryBy.out p) =
    let (a, b) = plus_ends p.related in
    record { side = 0; owner = p.owner; hub = p.hub; owner_small = a; hub_small = b; is = p.is }
numbered edges l (EntryBy.into p) =
    let (a, b) = plus_ends p.related in
    record { side = 1; owner = p.owner; hub = p.hub; owner_small = b; hub_small = a; is = p.is }

pub one_pattern : {k : ℕ} {edges : List ℕ} → k ≤ most_longest → (l m : List ℕ) (e : ℕ)
    → With k (PatternEntry edges) l e → With k (PatternEntry edges) m e → l ≡ m
one_pattern {k} {edges} h l m e p q =
    let a = numbered edges l p.holds in
    let b = numbered edges m q.holds in
    let hl = code_below h p.pattern.keyed in
    let hm = code_below h q.pattern.keyed in
    code_inj p.pattern q.pattern (omega (arith, a.owner_small, a.hub_small, a.is, b.owner_small, b.hub_small, b.is))

-- ---- a word that leads nowhere

module _ {edges : List ℕ} (w : List ℕ) (dead : (a t : ℕ) → a < most_vertices → Trail edges a w t → ⊥) where
  no_plus : (v : List ℕ) {a b : ℕ} → Plus (Spans edges (v ++ w)) a b → ⊥
  no_plus v p = plus_from (λ a. ⊥) (λ a b h. let (m, x, y) = trail_cut v h.trail in dead m b (trail_to x h.from) y) p

  pub no_entry : (v : List ℕ) (e : ℕ) → PatternEntry edges (v ++ w) e → ⊥
  no_entry v e (EntryBy.out p) = no_plus v p.related
  no_entry v e (EntryBy.into p) = no_plus v p.related

-- if the row of one label more is empty
pub child_none : {edges word w : List ℕ} {c r : ℕ} → ChildRow edges word w c r → NoneFrom w r 0
    → (v : List ℕ) (e : ℕ) → PatternEntry edges (v ++ suc c ∷ word) e → ⊥
child_none {word = word} {c = c} f n = no_entry (suc c ∷ word) (λ a t k trail. n.gap a (omega arith) k (f.has a t k trail))

-- ---- over a graph

module _ (n k : ℕ) (edges : List ℕ) (small : n ≤ most_vertices) (valid : (x : ℕ) → x ∈ edges → edge? n x ≡ true) where
  abbrev graph : Graph
  graph = record { vertices = n; longest = k; edges = edges }

  spells_as : (i j : ℕ) {a t : ℕ} {l : List ℕ} → Spells (record { vertices = n; longest = i; edges = edges }) a l t
      → Spells (record { vertices = n; longest = j; edges = edges }) a l t
  spells_as i j Spells.here = Spells.here
  spells_as i j (Spells.edge e p) = Spells.edge (record { from = e.from; to = e.to; stands = e.stands }) (spells_as i j p)

  -- a trail of labels starts at a vertex of the graph
  trail_from : {a t : ℕ} (l : List ℕ) → 1 ≤ length l → ((c : ℕ) → c ∈ l → c ≤ most_label) → Trail edges a l t → a < n
  trail_from l h f Trail.here = absurd (not-suc-le-zero h)
  trail_from l h f (Trail.edge {a = a} {c = c} {b = b} hb e p) =
      let x = test_yields (test_edge n (edge_number a c b)) (valid _ e) in
      let hc = f c (Memᴰ.head refl) in
      rw (edge_fields a c b (omega arith) hb).0 at x.from

  module _ (l : List ℕ) (p : Pattern k l) where
    spans_spells : {a b : ℕ} → Spans edges l a b → Spells graph a l b
    spans_spells h = spells_as 0 k (trail_spells valid h.trail (trail_from l p.keyed.long (λ c m. (p.keyed.labels c m).1) h.trail))

    spells_spans : {a b : ℕ} → Spells graph a l b → Spans edges l a b
    spells_spans h =
        let a = runs_from p.keyed.long (once h) in
        let b = runs_to (once h) a in
        record { from = omega arith; to = omega arith; trail = spells_trail small (spells_as k 0 h) }

    plus_runs : {a b : ℕ} → Plus (Spans edges l) a b → Runs graph l a b
    plus_runs (Plus.one h) = once (spans_spells h)
    plus_runs (Plus.more h q) = more (spans_spells h) (plus_runs q)

    runs_plus : {a b : ℕ} → Runs graph l a b → Plus (Spans edges l) a b
    runs_plus (once h) = Plus.one (spells_spans h)
    runs_plus (more h q) = Plus.more (spells_spans h) (runs_plus q)

    entry_iff : (e : ℕ) → OfPattern graph (up_to n) l e ↔ PatternEntry edges l e
    entry_iff e = Iff.trans (pattern_by graph l p.keyed.long) (entry_by_as (λ a b. (runs_plus, plus_runs)), entry_by_as (λ a b. (plus_runs, runs_plus)))

  -- the determined entries of the graph in its own order are those of all patterns
  pub entries_beyond : (e : ℕ) → IsEntry graph (up_to n) e ↔ Beyond k (PatternEntry edges) [] e
  entries_beyond e = (
    λ i. let (l, p, o) = entry_pattern.0 i in (all_beyond e).0 (l, record { pattern = p; holds = (entry_iff l p e).0 o }),
    λ b. let (l, q) = (all_beyond e).1 b in entry_pattern.1 (l, q.pattern, (entry_iff l q.pattern e).1 q.holds),
  )
