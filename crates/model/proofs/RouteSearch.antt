-- The search's laws: its queue is of first walks, in their order; it ends with every state that is reached; and so its pick is the route.
use mathlib.Core.Path.{◌≡◌, refl, sym, ap, ◌∙◌, subst}
use mathlib.Core.Logic.{◌⊎◌, inl, inr, ⊎_elim, ◌↔◌}
use mathlib.Core.Bool.{not, ◌&&◌}
use mathlib.Core.List.Memᴰ
use mathlib.Core.List.{List, [], ◌∷◌, ◌++◌, reverse, append-nil, append_assoc}
use Prim.Native.Nat.{ℕ, zero, suc, ◌+◌, ◌≤◌, ◌<◌}
use native.Mathlib.Nat.{eq-or-lt_of_le}
use native.Mathlib.Decide.{dec_lt, ℕ_discrete}
use native.Mathlib.Omega.{arith}
use lib.Dec.{eqb}
use lib.ListN.{length, get_or, length-append, length-reverse}
use Rattle.model.specs.Lists.{◌∈◌, keep, empty?, none, next, Rising}
use Rattle.model.specs.Limits.{most_vertices}
use Rattle.model.specs.Edges.{Graph, edge_number, to_of}
use Rattle.model.specs.Walks.{Runs}
use Rattle.model.specs.States.{state, vertex_of, used_of}
use Rattle.model.specs.Computed.Levels.{states}
use Rattle.model.proofs.Tests.{Tests, test_and, test_not, test_eq, test_lt, test_mem, by_test}
use Rattle.model.proofs.Lists.{member_long, keep_in, keep_out, length_keep, sorted_head, sorted_tail, sorted_back, sorted_across, sorted_keep, sorted_append}
use Rattle.model.proofs.Levels.{states_iff}
use Rattle.model.specs.Routes.{Route}
use Rattle.model.specs.Computed.Routes.{ahead, follows?, Node, node_by, Frontier, visit, visit_all, search, start_node, pick, route_of}
use Rattle.model.specs.Queue.{StepBy, ◌≺◌, early, last, start, on, ◌∈ⁿ◌, Queued, Searched, Mid, Going}
use Rattle.model.proofs.Before.{lt_irrefl, lt_trans, longer, lt_cons}
use Rattle.model.proofs.WalksBack.{step_state, candidate_back}
use Rattle.model.proofs.Queue.{met_later, covered, skip_to, step_old, step_new}
use Rattle.model.proofs.Routes.{route_unique, candidate_runs, runs_candidate, candidate_long, met_route}

-- a list without an element of it is shorter
pub keep_shorter : (z : ℕ) (m : List ℕ) → z ∈ m → length (keep (λ x. not (eqb x z)) m) + 1 ≤ length m
keep_shorter z m h = omega (arith, length_keep (λ x. eqb x z) m, member_long (keep (λ x. eqb x z) m) (keep_in (λ x. eqb x z) h ((test_eq z z).passes refl)))

next_edge : (x : ℕ) (p : List ℕ) → (x ∷ p) ≺ (suc x ∷ p)
next_edge x p = last {e = x} {f = suc x} refl (omega arith)

module _ (g : Graph) (l : List ℕ) (s : ℕ) (small : g.vertices ≤ most_vertices) (full : 1 ≤ length l) (rises : Rising g.edges) where
  pub test_follows : (a x : ℕ) → Tests (follows? g l a x) ((x ≡ edge_number (vertex_of a) (get_or l (used_of a) 0) (to_of x)) × (to_of x < g.vertices))
  unfolding follows?
  test_follows a x = test_and (test_eq x (edge_number (vertex_of a) (get_or l (used_of a) 0) (to_of x))) (test_lt (to_of x) g.vertices)

  -- the edges up to x lead nowhere
  pub mid_skip : {nodes : List Node} {p : Node} {fresh : List ℕ} {b x : ℕ} → Mid g l s nodes p fresh b → b ≤ x → ((y z : ℕ) → b ≤ y → y < x → StepBy g l p.at y z → ⊥) → Mid g l s nodes p fresh x
  mid_skip {nodes} {p} {fresh} {b} {x} h k f = record {
    among = h.among;
    searched = skip_to g l s p h.among h.searched k (λ y z a c j. absurd (f y z a c j));
    sorted = h.sorted;
    under = λ n m. ⊎_elim (λ e. rw e at (h.under n m)) (λ c. lt_trans (h.under n m) (last refl c)) (eq-or-lt_of_le k);
    left = h.left;
  }

  -- edge x leads to a state that is met
  pub mid_old : {nodes : List Node} {p : Node} {fresh : List ℕ} {x z : ℕ} → Mid g l s nodes p fresh x → StepBy g l p.at x z → ¬ (z ∈ fresh) → Mid g l s nodes p fresh (suc x)
  mid_old {nodes} {p} {fresh} {x} {z} h k d = record {
    among = h.among;
    searched = step_old g l s p h.among h.searched k (⊎_elim (λ m. absurd (d m)) (λ m. m) (h.left.rest z ((states_iff g l z).1 (step_state small full k))));
    sorted = h.sorted;
    under = λ n m. lt_trans (h.under n m) (last refl (omega arith));
    left = h.left;
  }

  -- and to one that is fresh
  pub mid_new : {nodes : List Node} {p : Node} {fresh : List ℕ} {x z : ℕ} → Mid g l s nodes p fresh x → StepBy g l p.at x z → z ∈ fresh
      → Mid g l s (nodes ++ node_by l p x ∷ []) p (keep (λ y. not (eqb y z)) fresh) (suc x)
  mid_new {nodes} {p} {fresh} {x} {z} h k i = record {
    among = Memᴰ.append_left _ h.among;
    searched = step_new g l s p h.among h.searched k (h.left.unmet z i);
    sorted = sorted_append h.sorted (next (λ n m. absurd (Memᴰ.not-nil m)) none) (λ n q m j. let e : q ≡ node_by l p x = Memᴰ.eq_of_singleton j in rw e (h.under n m));
    under = λ n m. ⊎_elim (λ j. lt_trans (h.under n j) (last refl (omega arith))) (λ j. let e : n ≡ node_by l p x = Memᴰ.eq_of_singleton j in rw e (next_edge x p.back)) (Memᴰ.append_cases nodes m);
    left = record {
      unmet = λ y m t. let (a, b) = keep_out (λ y. not (eqb y z)) fresh m in gone y a ((test_not (test_eq y z)).yields b) t;
      rest = λ y q. ⊎_elim
          (λ m. elim (ℕ_discrete y z) [
            | yes e ↦ inr (record { node = node_by l p x; among = Memᴰ.append_right nodes (Memᴰ.head refl); is = sym k.is ∙ sym e; long = omega arith })
            | no e ↦ inl (keep_in (λ y. not (eqb y z)) m ((test_not (test_eq y z)).passes e))
          ])
          (λ m. inr (met_later (node_by l p x ∷ []) m)) (h.left.rest y q);
    };
  }
    where
      gone : (y : ℕ) → y ∈ fresh → ¬ (y ≡ z) → Queued (nodes ++ node_by l p x ∷ []) y → ⊥
      gone y a b t = ⊎_elim (λ j. h.left.unmet y a (record { node = t.node; among = j; is = t.is; long = t.long }))
          (λ j. let e : t.node ≡ node_by l p x = Memᴰ.eq_of_singleton j in b (sym t.is ∙ ap (λ (n : Node). n.at) e ∙ sym k.is))
          (Memᴰ.append_cases nodes t.among)

  -- the queue after some edges, and no longer with what is fresh than it was
  record VisitedBy (done : List Node) (p : Node) (o o' : Frontier) (b : ℕ) : Type 0 where
    mid : Mid g l s (done ++ p ∷ o'.todo) p o'.fresh b
    size : length o'.todo + length o'.fresh ≤ length o.todo + length o.fresh

  mid_visit : (done : List Node) {p : Node} (o : Frontier) {x z : ℕ} → Mid g l s (done ++ p ∷ o.todo) p o.fresh x → StepBy g l p.at x z → VisitedBy done p o (visit (node_by l p x) o) (suc x)
  unfolding visit
  mid_visit done {p} o {x} {z} h k = by_test (λ o'. VisitedBy done p o o' (suc x)) (test_mem (ahead l p.at x) o.fresh)
      (λ i. record {
        mid = subst (λ (ns : List Node). Mid g l s ns p (keep (λ y. not (eqb y (ahead l p.at x))) o.fresh) (suc x)) (append_assoc done (p ∷ o.todo) (node_by l p x ∷ [])) (mid_new h to i);
        size = omega (arith, length-append o.todo (node_by l p x ∷ []), keep_shorter (ahead l p.at x) o.fresh i);
      })
      (λ d. record { mid = mid_old h to d; size = omega arith })
    where
      to : StepBy g l p.at x (ahead l p.at x)
      to = record { stands = k.stands; number = k.number; to = k.to; is = refl }

  -- the edges xs of node p are still to be taken, those from b on
  record Upcoming (p : Node) (b : ℕ) (xs : List ℕ) : Type 0 where
    rising : Rising xs
    from : (x : ℕ) → x ∈ xs → b ≤ x
    steps : (x : ℕ) → x ∈ xs → StepBy g l p.at x (ahead l p.at x)
    all : (x z : ℕ) → b ≤ x → StepBy g l p.at x z → x ∈ xs

  -- all edges of node p are taken
  record AllTaken (done : List Node) (p : Node) (o o' : Frontier) : Type 0 where
    up : ℕ
    visited : VisitedBy done p o o' up
    none : (x z : ℕ) → up ≤ x → StepBy g l p.at x z → ⊥

  mid_all : (done : List Node) {p : Node} (xs : List ℕ) (o : Frontier) {b : ℕ} → Mid g l s (done ++ p ∷ o.todo) p o.fresh b → Upcoming p b xs → AllTaken done p o (visit_all l p xs o)
  unfolding visit_all
  mid_all done {p} [] o {b} h a = record { up = b; visited = record { mid = h; size = omega arith }; none = λ x z k j. Memᴰ.not-nil (a.all x z k j) }
  mid_all done {p} (x ∷ xs) o {b} h a =
      let v = mid_visit done o (mid_skip h (a.from x (Memᴰ.head refl)) (λ y z k c j. ⊎_elim (λ e. omega arith) (λ m. lower y c m) (Memᴰ.cases_cons (a.all y z k j)))) (a.steps x (Memᴰ.head refl)) in
      let r = mid_all done xs (visit (node_by l p x) o) v.mid further in
      record { up = r.up; visited = record { mid = r.visited.mid; size = omega (arith, r.visited.size, v.size) }; none = r.none }
    where
      lower : (y : ℕ) → y < x → y ∈ xs → ⊥
      lower y c m = omega (arith, sorted_head a.rising y m)

      further : Upcoming p (suc x) xs
      further = record {
        rising = sorted_tail a.rising;
        from = λ y m. sorted_head a.rising y m;
        steps = λ y m. a.steps y (Memᴰ.tail m);
        all = λ y z k j. ⊎_elim (λ e. absurd (omega arith)) (λ m. m) (Memᴰ.cases_cons (a.all y z (omega (arith, a.from x (Memᴰ.head refl))) j));
      }

  ahead_all : (p : Node) → Upcoming p 0 (keep (follows? g l p.at) g.edges)
  ahead_all p = record {
    rising = sorted_keep (follows? g l p.at) rises;
    from = λ x m. omega arith;
    steps = λ x m.
        let (a, t) = keep_out (follows? g l p.at) g.edges m in
        let (b, c) = (test_follows p.at x).yields t in
        record { stands = a; number = b; to = c; is = refl };
    all = λ x z k j. keep_in (follows? g l p.at) j.stands ((test_follows p.at x).passes (j.number, j.to));
  }

  pub going_mid : {done : List Node} {p : Node} {todo : List Node} {fresh : List ℕ} → Going g l s done (p ∷ todo) (done ++ p ∷ todo) fresh → Mid g l s (done ++ p ∷ todo) p fresh 0
  going_mid {done} {p} {todo} h = record {
    among = Memᴰ.append_right done (Memᴰ.head refl);
    searched = record {
      firsts = h.firsts;
      closed = λ n m x z k b. ⊎_elim (λ i. h.closed n i x z k) (λ i. absurd (later n i (⊎_elim (λ j. j) (λ j. absurd (omega (arith, j.1))) (lt_cons b)))) (Memᴰ.append_cases done m);
    };
    sorted = h.sorted;
    under = λ n m. h.near n p m (Memᴰ.head refl);
    left = h.left;
  }
    where
      later : (n : Node) → n ∈ⁿ p ∷ todo → n.back ≺ p.back → ⊥
      later n m b = ⊎_elim (λ e. lt_irrefl b (ap (λ (n : Node). n.back) e)) (λ i. lt_irrefl (lt_trans b (sorted_head (sorted_back done h.sorted) n i)) refl) (Memᴰ.cases_cons m)

  pub mid_going : (done : List Node) {p : Node} {todo : List Node} {fresh : List ℕ} {b : ℕ} → Mid g l s (done ++ p ∷ todo) p fresh b → ((x z : ℕ) → b ≤ x → StepBy g l p.at x z → ⊥) → Going g l s (done ++ p ∷ []) todo (done ++ p ∷ todo) fresh
  mid_going done {p} {todo} {fresh} {b} h f = record {
    parts = sym (append_assoc done (p ∷ []) todo);
    firsts = h.searched.firsts;
    closed = λ n m x z k. ⊎_elim
        (λ i. h.searched.closed n (Memᴰ.append_left (p ∷ todo) i) x z k (early (sorted_across done h.sorted i (Memᴰ.head refl))))
        (λ i. let e : n ≡ p = Memᴰ.eq_of_singleton i in here x z (rw e at k))
        (Memᴰ.append_cases done m);
    sorted = h.sorted;
    near = λ n m i j. lt_trans (h.under n i) (early (sorted_head (sorted_back done h.sorted) m j));
    left = h.left;
  }
    where
      here : (x z : ℕ) → StepBy g l p.at x z → Queued (done ++ p ∷ todo) z
      here x z k = elim (dec_lt x b) [ yes c ↦ h.searched.closed p h.among x z k (last refl c) | no c ↦ absurd (f x z (omega arith) k) ]

  -- the end: whatever the cursor, all is looked at
  pub record WholeSearch (nodes : List Node) : Type 0 where
    pub searched : (c : List ℕ) → Searched g l s nodes c

  pub going_end : {done nodes : List Node} {fresh : List ℕ} → Going g l s done [] nodes fresh → WholeSearch done
  going_end {done} {nodes} {fresh} h = go (h.parts ∙ append-nil done)
    where
      go : nodes ≡ done → WholeSearch done
      go e = record { searched = λ c. rw (← e) (record { firsts = h.firsts; closed = λ n m x z k b. h.closed n (rw e at m) x z k }) }

  searches : (f : ℕ) (done todo : List Node) (fresh : List ℕ) → Going g l s done todo (done ++ todo) fresh → length todo + length fresh ≤ f → WholeSearch (search g l f done todo fresh)
  unfolding search
  searches zero done [] fresh h k = going_end h
  searches zero done (n ∷ todo) fresh h k = absurd (omega arith)
  searches (suc f) done [] fresh h k = going_end h
  searches (suc f) done (n ∷ todo) fresh h k =
      let o : Frontier = record { todo = todo; fresh = fresh } in
      let xs : List ℕ = keep (follows? g l n.at) g.edges in
      let r = mid_all done xs o (going_mid h) (ahead_all n) in
      let o' : Frontier = visit_all l n xs o in
      let d : Going g l s (done ++ n ∷ []) o'.todo (done ++ n ∷ o'.todo) o'.fresh = mid_going done r.visited.mid r.none in
      searches f (done ++ n ∷ []) o'.todo o'.fresh (rw d.parts at d) (omega (arith, r.visited.size))

  pub starts : Going g l s [] (start_node s ∷ []) (start_node s ∷ []) (states g l)
  starts = record {
    parts = refl;
    firsts = record {
      rooted = Memᴰ.head refl;
      walks = λ n m. let e : n ≡ start_node s = Memᴰ.eq_of_singleton m in rw e start;
      least = λ n m k. let e : n ≡ start_node s = Memᴰ.eq_of_singleton m in absurd (omega (arith, ap (λ (n : Node). length n.back) e));
    };
    closed = λ n m. absurd (Memᴰ.not-nil m);
    sorted = next (λ n m. absurd (Memᴰ.not-nil m)) none;
    near = λ n m i j. let e : n ≡ start_node s = Memᴰ.eq_of_singleton i in rw e ◌≺◌.none;
    left = record {
      unmet = λ z m t. let e : t.node ≡ start_node s = Memᴰ.eq_of_singleton t.among in omega (arith, t.long, ap (λ (n : Node). length n.back) e);
      rest = λ z q. inl q;
    };
  }

  -- ---- the pick

  data PicksNode (z : ℕ) (nodes : List Node) : List ℕ → Type 0 where
    met : (m : Queued nodes z) → PicksNode z nodes (reverse m.node.back)
    unmet : (Queued nodes z → ⊥) → PicksNode z nodes []

  test_node : (z : ℕ) (n : Node) → Tests (eqb n.at z && not (empty? n.back)) ((n.at ≡ z) × (1 ≤ length n.back))
  test_node z n = test_and (test_eq n.at z) (long n.back)
    where
      long : (p : List ℕ) → Tests (not (empty? p)) (1 ≤ length p)
      long [] = record { yields = λ t. absurd t; passes = λ h. absurd (omega arith) }
      long (x ∷ p) = record { yields = λ t. omega arith; passes = λ h. tt }

  picks : (z : ℕ) (nodes : List Node) → PicksNode z nodes (pick z nodes)
  unfolding pick
  picks z [] = unmet (λ m. Memᴰ.not-nil m.among)
  picks z (n ∷ ns) = by_test (PicksNode z (n ∷ ns)) (test_node z n)
      (λ h. met (record { node = n; among = Memᴰ.head refl; is = h.0; long = h.1 }))
      (λ d. later d (picks z ns))
    where
      later : {es : List ℕ} → ¬ ((n.at ≡ z) × (1 ≤ length n.back)) → PicksNode z ns es → PicksNode z (n ∷ ns) es
      later d (met m) = met (record { node = m.node; among = Memᴰ.tail m.among; is = m.is; long = m.long })
      later d (unmet f) = unmet (λ m. ⊎_elim
          (λ e. d (subst (λ (k : Node). (k.at ≡ z) × (1 ≤ length k.back)) e (m.is, m.long)))
          (λ i. f (record { node = m.node; among = i; is = m.is; long = m.long })) (Memᴰ.cases_cons m.among))

-- the route, or no edges where no walk runs the pattern
pub data RoutedBy (g : Graph) (l : List ℕ) (s t : ℕ) : List ℕ → Type 0 where
  is_route : {es : List ℕ} → Route g l s t es → RoutedBy g l s t es
  no_route : ¬ Runs g l s t → RoutedBy g l s t []

module _ (g : Graph) (l : List ℕ) (s t : ℕ) (small : g.vertices ≤ most_vertices) (full : 1 ≤ length l) (rises : Rising g.edges) (hs : s < g.vertices) (ht : t < g.vertices) where
  -- where all is looked at, what is met is what a walk runs to
  pub whole_met : {nodes : List Node} → WholeSearch g l s small full rises nodes → Runs g l s t → Queued nodes (state t 0)
  whole_met h r =
      let (es, c) = runs_candidate r in
      covered g l s (h.searched (0 ∷ reverse es)) (candidate_back g l s small full c) (omega (arith, length-reverse es, candidate_long full c)) (longer 0 (reverse es))

  pub route_of_lem : RoutedBy g l s t (route_of g l s t)
  unfolding route_of
  route_of_lem = go (picks g l s small full rises (state t 0) nodes)
    where
      nodes : List Node
      nodes = search g l (suc (length (states g l))) [] (start_node s ∷ []) (states g l)

      whole : WholeSearch g l s small full rises nodes
      whole = searches g l s small full rises (suc (length (states g l))) [] (start_node s ∷ []) (states g l) (starts g l s small full rises) (omega arith)

      go : {es : List ℕ} → PicksNode g l s small full rises (state t 0) nodes es → RoutedBy g l s t es
      go (met m) = is_route (met_route g l s t small full hs ht (whole.searched []).firsts m)
      go (unmet f) = no_route (λ r. f (whole_met whole r))

  -- there is a route where a walk runs the pattern, and there alone
  pub route_iff : ((es : List ℕ) × Route g l s t es) ↔ Runs g l s t
  route_iff = (λ h. candidate_runs h.1.runs, λ r. go r route_of_lem)
    where
      go : {es : List ℕ} → Runs g l s t → RoutedBy g l s t es → (es : List ℕ) × Route g l s t es
      go {es} r (is_route h) = (es, h)
      go r (no_route d) = absurd (d r)

  -- and it is this one
  pub route_is : {es : List ℕ} → Route g l s t es → route_of g l s t ≡ es
  route_is {es} h = go route_of_lem
    where
      go : {fs : List ℕ} → RoutedBy g l s t fs → fs ≡ es
      go (is_route k) = route_unique k h
      go (no_route d) = absurd (d (candidate_runs h.runs))

  pub route_none : (Runs g l s t → ⊥) → route_of g l s t ≡ []
  route_none d = go route_of_lem
    where
      go : {fs : List ℕ} → RoutedBy g l s t fs → fs ≡ []
      go (is_route k) = absurd (d (candidate_runs k.runs))
      go (no_route d) = refl

-- the longest pattern plays no part
module _ (vertices : ℕ) (edges l : List ℕ) (j k : ℕ) where
  search_as : (f : ℕ) (done todo : List Node) (fresh : List ℕ)
      → search (record { vertices = vertices; longest = j; edges = edges }) l f done todo fresh ≡ search (record { vertices = vertices; longest = k; edges = edges }) l f done todo fresh
  unfolding search follows?
  search_as zero done todo fresh = refl
  search_as (suc f) done [] fresh = refl
  search_as (suc f) done (n ∷ todo) fresh = search_as f (done ++ n ∷ []) _ _

  pub route_as : (s t : ℕ) → route_of (record { vertices = vertices; longest = j; edges = edges }) l s t ≡ route_of (record { vertices = vertices; longest = k; edges = edges }) l s t
  unfolding route_of states
  route_as s t = ap (pick (state t 0)) (search_as _ [] (start_node s ∷ []) _)
