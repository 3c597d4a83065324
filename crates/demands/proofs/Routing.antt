-- The route's call on any record and memory: its refusals are the plain check's, and what it lights once its checks have passed.
use mathlib.Core.Path.{◌≡◌, refl, sym, ap, ◌∙◌}
use mathlib.Core.Bool.{true}
use mathlib.Core.List.{List, [], ◌∷◌}
use Prim.Native.Nat.{ℕ, zero, suc, ◌*◌, ◌≤◌, ◌<◌}
use native.Mathlib.Omega.{arith}
use lib.Dec.{leb}
use lib.ListN.{length}
use Rattle.model.specs.Limits.{most_vertices, most_longest, least_work, enough_levels}
use Rattle.model.specs.Edges.{Graph, Bounds, standing}
use Rattle.model.specs.Patterns.{Keyed}
use Rattle.model.specs.Walks.{Runs}
use Rattle.model.specs.Routes.{Route, Routed, Yes, Refused}
use Rattle.model.specs.States.{Reply, Yes as SearchYes}
use Rattle.model.specs.Computed.Edges.{edge_memory?}
use Rattle.model.specs.Computed.Patterns.{keyed?}
use Rattle.model.specs.Computed.Routes.{route_of}
use Rattle.model.specs.Levels.{Decides, runs, runs_not}
use Rattle.model.proofs.Memory.{edge_memory}
use Rattle.model.proofs.Search.{told, decides}
use Rattle.model.proofs.Routes.{candidate_long, candidate_runs, reply_route, route_short}
use Rattle.model.proofs.RouteSearch.{RoutedBy, is_route, no_route, route_of_lem}
use Rattle.calls.specs.Checks.{vertices?, longest?, ends?, Check}
use Rattle.calls.specs.Call.{Size, graph_of, Memory, Outcome}
use Rattle.calls.specs.Search.{search_refusal, search_call}
use Rattle.calls.specs.Route.{route_call}
use Rattle.calls.proofs.Passing.{passing}
use Rattle.calls.proofs.Route.{LightingCase, nothing, fits, too_long, lighting_case}
use Rattle.calls.proofs.Query.{Allowed, allowed}
use Rattle.demands.specs.Demand1.{search_number}
use Rattle.demands.proofs.Demand1.{yes_no, edges_in, told_none}
use Rattle.demands.specs.Demand2.{Lit, lit, short, none}

-- a route's edges, or none, as they are lit
lit_by : {g : Graph} {l : List ℕ} {s t : ℕ} → 1 ≤ length l → {es : List ℕ} → RoutedBy g l s t es → {m : Memory} {c : Outcome Routed} → LightingCase es m c
    → Lit g l s t m.output c.reply c.memory.output
lit_by full (is_route {es = es} r) (nothing e) = absurd (let z = candidate_long full r.runs in omega (arith, ap length e))
lit_by full (is_route {es = es} r) (fits some enough) = lit es r enough
lit_by full (is_route {es = es} r) (too_long less) = short es r less
lit_by full (no_route d) (nothing e) = none d
lit_by full (no_route d) (fits some enough) = absurd (omega arith)
lit_by full (no_route d) (too_long less) = absurd (omega arith)

-- the edges of one that is given
pub lit_route : {g : Graph} {l : List ℕ} {s t : ℕ} {walk after : List ℕ} {r : Routed} {n : ℕ} → Lit g l s t walk r after → r ≡ Yes n
    → (es : List ℕ) × Route g l s t es × (length es ≡ n)
lit_route (lit es r h) e = (es, r, ap edges_in e)
lit_route (short es r h) e = absurd (let z : 2 ≡ 0 = ap yes_no e in omega arith)
lit_route (none d) e = absurd (let z : 1 ≡ 0 = ap yes_no e in omega arith)

-- where walk memory is long enough for any route, one is given if a walk runs the pattern
pub runs_lit : {g : Graph} {l : List ℕ} {s t : ℕ} → Bounds g.vertices g.longest → Keyed g.longest l → s < g.vertices → t < g.vertices
    → {walk after : List ℕ} {r : Routed} → most_longest * most_vertices ≤ length walk → Lit g l s t walk r after → Runs g l s t → (n : ℕ) × (r ≡ Yes n)
runs_lit b k hs ht long (lit es r h) p = (length es, refl)
runs_lit {g} {l} {s} {t} b k hs ht long (short es r h) p =
    absurd (let z = route_short g l s t b.vertices_most k.long hs ht r in omega (arith, z, k.short, b.longest_most))
runs_lit b k hs ht long (none d) p = absurd (d p)

decides_yes : {g : Graph} {l : List ℕ} {s t : ℕ} {r : Reply} → Decides g l s t r → Runs g l s t → (c : ℕ) × (r ≡ SearchYes c)
decides_yes (runs c p) q = (c, refl)
decides_yes (runs_not c d) q = absurd (d q)

module _ (h : Size) (s t : ℕ) (l : List ℕ) (m : Memory) where
  abbrev graph : Graph
  graph = graph_of h (standing m.edges)

  abbrev checks : List Check
  checks =
      (1, vertices? h.vertices)
      ∷ (2, longest? h.longest)
      ∷ (3, edge_memory? h.vertices m.edges)
      ∷ (4, leb least_work (length m.work))
      ∷ (10, ends? h.vertices s t)
      ∷ (11, keyed? h.longest l)
      ∷ []

  module _ (none : search_refusal h s t l m ≡ 0) where
    -- what the plain check's checks leave
    pub search_allowed : Allowed h s t l × (edge_memory? h.vertices m.edges ≡ true)
    search_allowed = let (v, (k, (edges, (_, (ends, (keyed, _)))))) = passing checks tt (unfold search_refusal in none) in (allowed h s t l v k ends keyed, edges)

    pub route_lit : Lit graph l s t m.output (route_call h s t l m).reply (route_call h s t l m).memory.output
    unfolding route_call
    route_lit =
        let (a, e) = search_allowed in
        let (_, o) = edge_memory h.vertices m.edges e in
        rw none (lit_by a.keyed.long
        (route_of_lem graph l s t a.bounds.vertices_most a.keyed.long o.sorted a.start_vertex a.destination_vertex)
        (lighting_case (route_of graph l s t) m))

  pub route_refuses : {n : ℕ} → search_refusal h s t l m ≡ suc n → (route_call h s t l m).reply ≡ Refused (suc n)
  unfolding route_call
  route_refuses e = rw e refl

  -- a plain check tells the number of its refusal, or none
  pub search_number_lem : (limit : ℕ) → search_number (search_call h s t l limit m).reply ≡ search_refusal h s t l m
  unfolding search_call
  search_number_lem limit = go (search_refusal h s t l m) refl
    where
      go : (n : ℕ) → search_refusal h s t l m ≡ n → search_number (search_call h s t l limit m).reply ≡ search_refusal h s t l m
      go zero e = rw e (told_none (told graph l s t limit))
      go (suc n) e = rw e refl

  pub route_told : (limit : ℕ) →
      let n = search_number (search_call h s t l limit m).reply in
      (1 ≤ n → (route_call h s t l m).reply ≡ Refused n) × (n ≡ 0 → Lit graph l s t m.output (route_call h s t l m).reply (route_call h s t l m).memory.output)
  route_told limit = rw (search_number_lem limit) (go (search_refusal h s t l m) refl, route_lit)
    where
      go : (n : ℕ) → search_refusal h s t l m ≡ n → 1 ≤ search_refusal h s t l m → (route_call h s t l m).reply ≡ Refused (search_refusal h s t l m)
      go zero e k = absurd (omega (arith, e, k))
      go (suc n) e k = route_refuses e ∙ ap Refused (sym e)

  -- a route has as many edges as the plain check's yes has levels
  pub route_levels : (limit n : ℕ) → enough_levels ≤ limit → (route_call h s t l m).reply ≡ Yes n → (search_call h s t l limit m).reply ≡ SearchYes n
  unfolding search_call
  route_levels limit n enough e = go (search_refusal h s t l m) refl
    where
      go : (k : ℕ) → search_refusal h s t l m ≡ k → (search_call h s t l limit m).reply ≡ SearchYes n
      go zero q =
          let (a, _) = search_allowed q in
          let (es, r, long) = lit_route (route_lit q) e in
          let d = decides graph l s t a.bounds.vertices_most a.keyed.long a.start_vertex a.destination_vertex limit enough (omega (arith, a.keyed.short, a.bounds.longest_most)) in
          let (c, y) = decides_yes d (candidate_runs r.runs) in
          let same = reply_route graph l s t a.bounds.vertices_most a.keyed.long a.start_vertex a.destination_vertex limit y r in
          rw q (y ∙ ap SearchYes (sym same ∙ long))
      go (suc k) q = absurd (let z : 2 ≡ 0 = ap yes_no (sym (route_refuses q) ∙ e) in omega arith)
