-- The determined entries as a list: it has them and no other, in rising order.
use mathlib.Core.Path.{◌≡◌, refl, sym}
use mathlib.Core.Logic.{◌⊎◌, inl, inr, ⊎_elim, ◌≢◌}
use mathlib.Core.Bool.{Bool}
use mathlib.Core.List.Memᴰ
use mathlib.Core.List.{List}
use Prim.Native.Nat.{ℕ, ◌≤◌, ◌<◌}
use native.Mathlib.Omega.{arith}
use lib.Dec.{T}
use lib.ListN.{length}
use Rattle.model.specs.Limits.{most_vertices}
use Rattle.model.specs.Lists.{◌∈◌, keep, up_to, Rising}
use Rattle.model.specs.Edges.{Graph}
use Rattle.model.specs.Patterns.{Pattern, code}
use Rattle.model.specs.Walks.{Stop}
use Rattle.model.specs.Order.{rank}
use Rattle.model.specs.Entries.{Earliest, entry_of, Asked, IsEntry, out, into}
use Rattle.model.specs.Computed.Edges.{Small}
use Rattle.model.specs.Computed.Patterns.{patterns}
use Rattle.model.specs.Computed.Entries.{stop?, all_stops, earliest?, out?, in?, of_hub, of_owner, of_side, entries}
use Rattle.model.proofs.Tests.{Tests, test_map, test_and, test_or, test_not, test_eq, test_le, test_mem, test_all}
use Rattle.model.proofs.Lists.{keep_in, keep_out, up_to_lem, below, spread_in, spread_out, rising_from, sorted_keep, sorted_append, sorted_map, sorted_spread}
use Rattle.model.proofs.Patterns.{patterns_in, patterns_out, patterns_rise, code_below}
use Rattle.model.proofs.Walks.{stop_iff, stop_to}
use Rattle.model.proofs.Search.{test_runs}

-- ---- what the tests say

module _ (g : Graph) (order l : List ℕ) (small : g.vertices ≤ most_vertices) (full : 1 ≤ length l) (s t : ℕ) (hs : s < g.vertices) (ht : t < g.vertices) where
  test_stop : (u : ℕ) → u < g.vertices → Tests (stop? g l s t u) (Stop g l s t u)
  unfolding stop?
  test_stop u hu = test_map stop_iff.1 stop_iff.0
      (test_and (test_runs g l small full s t hs ht) (test_or (test_eq u s) (test_or (test_eq u t) (test_and (test_runs g l small full s u hs hu) (test_runs g l small full u t hu ht)))))

  stops_in : {u : ℕ} → Stop g l s t u → u ∈ all_stops g l s t
  unfolding all_stops
  stops_in {u} h = let b = stop_to h hs in keep_in (stop? g l s t) (up_to_lem b) ((test_stop u b).passes h)

  stops_out : {u : ℕ} → u ∈ all_stops g l s t → Stop g l s t u
  unfolding all_stops
  stops_out {u} m = let (a, b) = keep_out (stop? g l s t) (up_to g.vertices) m in (test_stop u (below a)).yields b

  test_earliest : (u : ℕ) → Tests (earliest? g order l s t u) (Earliest g order l s t u)
  unfolding earliest?
  test_earliest u = test_map
      (λ (m, f). record { stop = stops_out m; least = λ v k. f v (stops_in k) }) (λ h. (stops_in h.stop, λ v m. h.least v (stops_out m)))
      (test_and (test_mem u (all_stops g l s t)) (test_all (λ v. test_le (rank order u) (rank order v)) (all_stops g l s t)))

module _ (g : Graph) (order : List ℕ) (small : g.vertices ≤ most_vertices) (s t : ℕ) (l : List ℕ) (q : Asked g l s t) where
  test_out : Tests (out? g order s t l) (Earliest g order l s t t)
  unfolding out?
  test_out = test_earliest g order l small q.pattern.keyed.long s t q.from q.to t

  test_in : Tests (in? g order t s l) ((s ≢ t) × Earliest g order l s t s)
  unfolding in?
  test_in = test_and (test_not (test_eq s t)) (test_earliest g order l small q.pattern.keyed.long s t q.from q.to s)

-- ---- what the list of one side holds

-- e is listed with owner a and hub b
record Listed (g : Graph) (side : ℕ) (test : ℕ → ℕ → List ℕ → Bool) (a b e : ℕ) : Type 0 where
  word : List ℕ
  owner : a < g.vertices
  hub : b < g.vertices
  pattern : Pattern g.longest word
  passed : T (test a b word)
  number : e ≡ entry_of side a b (code word)

module _ (g : Graph) (side : ℕ) (test : ℕ → ℕ → List ℕ → Bool) where
  side_in : {a b e : ℕ} → Listed g side test a b e → e ∈ of_side g side test
  unfolding of_side of_owner of_hub
  side_in {a} {b} r = spread_in (of_owner g side test) (up_to_lem r.owner) (spread_in (of_hub g side test a) (up_to_lem r.hub) (Memᴰ.cast r.number
      (Memᴰ.map (λ l. entry_of side a b (code l)) (keep_in (test a b) (patterns_in g.longest r.pattern) r.passed))))

  hub_out : {a b e : ℕ} → a ∈ up_to g.vertices → b ∈ up_to g.vertices → e ∈ of_hub g side test a b → Listed g side test a b e
  unfolding of_hub
  hub_out {a} {b} i j h =
      let (l, q, eq) = Memᴰ.of_map (λ l. entry_of side a b (code l)) (keep (test a b) (patterns g.longest)) h in
      let (p, t) = keep_out (test a b) (patterns g.longest) q in
      record { word = l; owner = below i; hub = below j; pattern = patterns_out g.longest p; passed = t; number = sym eq }

  owner_out : {a e : ℕ} → a ∈ up_to g.vertices → e ∈ of_owner g side test a → (b : ℕ) × Listed g side test a b e
  unfolding of_owner
  owner_out {a} i h = let (b, j, k) = spread_out (of_hub g side test a) (up_to g.vertices) h in (b, hub_out i j k)

  side_out : {e : ℕ} → e ∈ of_side g side test → (a : ℕ) × (b : ℕ) × Listed g side test a b e
  unfolding of_side
  side_out h = let (a, i, k) = spread_out (of_owner g side test) (up_to g.vertices) h in let (b, r) = owner_out i k in (a, b, r)

  module _ (small : Small g) where
    -- an entry with a lower owner, or of one owner with a lower hub, is lower
    entry_lt : {a b e c d f : ℕ} → Listed g side test a b e → Listed g side test c d f → (a < c) ⊎ ((a ≡ c) × (b < d)) → e < f
    entry_lt r q h =
        let i = code_below small.longest_small r.pattern.keyed in
        let j = code_below small.longest_small q.pattern.keyed in
        ⊎_elim (λ k. omega (arith, r, q, small)) (λ k. omega (arith, r, q, small)) h

    side_rise : Rising (of_side g side test)
    unfolding of_side of_owner of_hub
    side_rise = sorted_spread (of_owner g side test) (rising_from 0 g.vertices)
        (λ a i. sorted_spread (of_hub g side test a) (rising_from 0 g.vertices)
        (λ b j. sorted_map (λ l. entry_of side a b (code l)) (λ l m h. omega arith) (sorted_keep (test a b) (patterns_rise g.longest)))
        (λ b d e f h j k m n. entry_lt (hub_out i j m) (hub_out i k n) (inr (refl, h))))
        (λ a c e f h i j m n. entry_lt (owner_out i m).1 (owner_out j n).1 (inl h))

-- the list has the determined entries and no other, in rising order
module _ (g : Graph) (order : List ℕ) (small : Small g) where
  pub entries_in : {e : ℕ} → IsEntry g order e → e ∈ entries g order
  unfolding entries
  entries_in (out s t l q h e) = Memᴰ.append_left _ (side_in g 0 (out? g order)
      (record { word = l; owner = q.from; hub = q.to; pattern = q.pattern; passed = (test_out g order small.vertices_small s t l q).passes h; number = e }))
  entries_in (into s t l q h ne e) = Memᴰ.append_right (of_side g 0 (out? g order)) (side_in g 1 (in? g order)
      (record { word = l; owner = q.to; hub = q.from; pattern = q.pattern; passed = (test_in g order small.vertices_small s t l q).passes (ne, h); number = e }))

  pub entries_out : {e : ℕ} → e ∈ entries g order → IsEntry g order e
  unfolding entries
  entries_out {e} h = ⊎_elim (λ m. from_out (side_out g 0 (out? g order) m)) (λ m. from_in (side_out g 1 (in? g order) m)) (Memᴰ.append_cases (of_side g 0 (out? g order)) h)
    where
      from_out : (s : ℕ) × (t : ℕ) × Listed g 0 (out? g order) s t e → IsEntry g order e
      from_out (s, t, r) =
          let q : Asked g r.word s t = record { from = r.owner; to = r.hub; pattern = r.pattern } in
          out s t r.word q ((test_out g order small.vertices_small s t r.word q).yields r.passed) r.number

      from_in : (t : ℕ) × (s : ℕ) × Listed g 1 (in? g order) t s e → IsEntry g order e
      from_in (t, s, r) =
          let q : Asked g r.word s t = record { from = r.hub; to = r.owner; pattern = r.pattern } in
          let (ne, h) = (test_in g order small.vertices_small s t r.word q).yields r.passed in
          into s t r.word q h ne r.number

  pub entries_rise : Rising (entries g order)
  unfolding entries
  entries_rise = sorted_append (side_rise g 0 (out? g order) small) (side_rise g 1 (in? g order) small) (λ e f i j.
      let (_, _, r) = side_out g 0 (out? g order) i in
      let (_, _, q) = side_out g 1 (in? g order) j in
      omega (arith, r, q, small, code_below small.longest_small r.pattern.keyed))
