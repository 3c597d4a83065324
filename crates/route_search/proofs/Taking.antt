-- Taking a node: from between two nodes, over its edges one after another, to between the next two.
use mathlib.Core.Path.{◌≡◌, refl, sym, ap, ◌∙◌, subst}
use mathlib.Core.Bool.{not}
use mathlib.Core.Logic.{◌⊎◌, ⊎_elim}
use mathlib.Core.List.{List, [], ◌∷◌, ◌++◌, append_assoc}
use Prim.Native.Nat.{ℕ, suc, ◌+◌, ◌-◌, ◌/◌, ◌%◌, ◌≤◌, ◌<◌}
use native.Mathlib.Nat.{eq-or-lt_of_le, add-zero}
use native.Mathlib.Numerals.{add-one}
use native.Mathlib.Decide.{dec_lt, ℕ_discrete}
use native.Mathlib.Omega.{arith}
use lib.Dec.{eqb}
use lib.ListN.{length, get_or, set, length-append}
use lib.Seq.{get_or_at}
use Rattle.model.specs.Limits.{most_vertices, label_unit, least_work}
use Rattle.model.specs.Lists.{◌∈◌, keep}
use Rattle.model.specs.States.{IsState}
use Rattle.model.specs.Computed.Edges.{bare}
use Rattle.model.specs.Computed.Levels.{most_states}
use Rattle.model.specs.Computed.Routes.{ahead, Node, node_by, start_node}
use Rattle.model.specs.Queue.{StepBy, Queued, Mid, Going}
use Rattle.model.proofs.Tests.{test_yields}
use Rattle.model.proofs.Lists.{get_d_in, in_get_d, rising_lt, rising_le}
use Rattle.model.proofs.Edges.{IsEdge, test_edge}
use Rattle.model.proofs.Levels.{states_iff}
use Rattle.model.proofs.WalksBack.{step_state}
use Rattle.model.proofs.RouteSearch.{mid_skip, mid_old, mid_new, going_mid, mid_going, keep_shorter}
use Rattle.edges.specs.Slots.{Under}
use Rattle.frontier.specs.Search.{Searchable, key_of, base_of}
use Rattle.frontier.proofs.Spreading.{rest, rest_at, rest_long}
use Rattle.route_search.specs.Work.{queued_number, state_at, node_at, HoldsNodes, Paused, During, Enqueues}
use Rattle.route_search.proofs.Holding.{marked_queued, holds_new}

module _ {vertices : ℕ} {edges l : List ℕ} {s t : ℕ} (r : Searchable vertices edges l s t) where
  -- the steps from a are the edges from key up to key + label_unit
  step_key : {a x z : ℕ} → StepBy (bare vertices edges) l a x z → (key_of l a ≤ x) × (x < key_of l a + label_unit)
  step_key {a} {x} h = (omega (arith, h.number), omega (arith, h.number))

  valid_edge : (i : ℕ) → i < length edges → IsEdge vertices (get_or edges i 0)
  valid_edge i h = test_yields (test_edge vertices (get_or edges i 0)) (r.valid (get_or edges i 0) (get_d_in edges i h))

  key_step : (a i : ℕ) → i < length edges → key_of l a ≤ get_or edges i 0 → get_or edges i 0 < key_of l a + label_unit → StepBy (bare vertices edges) l a (get_or edges i 0) (ahead l a (get_or edges i 0))
  key_step a i h p q = record { stands = get_d_in edges i h; number = omega arith; to = (valid_edge i h).to; is = refl }

  -- ---- the start

  open_all : {a i : ℕ} → Under edges (key_of l a) i → (x z : ℕ) → 0 ≤ x → StepBy (bare vertices edges) l a x z → (j : ℕ) × (i ≤ j) × (j < length edges) × (get_or edges j 0 ≡ x)
  open_all {a} {i} u x z _ h =
      let k = in_get_d h.stands in
      (k.i, elim (dec_lt k.i i) [ yes b ↦ absurd (omega (arith, u.below k.i b, step_key h, k.is)) | no b ↦ omega arith ], k.inside, k.is)

  opens : (w : List ℕ) (n k i : ℕ) (done todo : List Node) (fresh : List ℕ) → Going (bare vertices edges) l s done todo (done ++ todo) fresh → HoldsNodes s w (done ++ todo) → length done ≡ k → length (done ++ todo) ≡ n
      → n + length fresh ≤ suc most_states → k < n → Under edges (key_of l (state_at w k)) i → During (bare vertices edges) l s w n k (state_at w k) i
  opens w n k i done [] fresh g h a c z b u = absurd (omega (arith, length-append {A = Node} done []))
  opens w n k i done (p ∷ todo) fresh g h a c z b u = record {
    done = done;
    node = p;
    todo = todo;
    fresh = fresh;
    bound = 0;
    mid = going_mid (bare vertices edges) l s r.vertices_small r.short.least r.rises g;
    holds = h;
    at = a;
    count = c;
    size = z;
    is = ap (λ (m : Node). m.at) (sym (get_or_at done p todo (start_node s) k a)) ∙ sym (h.state_of k (omega arith));
    from = λ j p q. omega arith;
    all = open_all u;
  }

  pub take_open : {w : List ℕ} {n k i key : ℕ} → Paused (bare vertices edges) l s w n k → k < n → key ≡ key_of l (state_at w k) → Under edges key i
      → During (bare vertices edges) l s w n k (state_at w k) (i + 0)
  take_open {w} {n} {k} {i} d b e u = rw add-zero (opens w n k i d.done d.todo d.fresh d.going d.holds d.at d.count d.size b (rw e at u))

  -- ---- the end

  take_close : {w : List ℕ} {n k a i key : ℕ} → During (bare vertices edges) l s w n k a i → key ≡ key_of l a → (i < length edges → key + label_unit ≤ get_or edges i 0) → Paused (bare vertices edges) l s w n (k + 1)
  take_close {w} {n} {k} {a} {i} {key} d ek f =
      let e = sym (append_assoc d.done (d.node ∷ []) d.todo) in
      record {
        done = d.done ++ d.node ∷ [];
        todo = d.todo;
        fresh = d.fresh;
        going = subst (λ (ns : List Node). Going (bare vertices edges) l s (d.done ++ d.node ∷ []) d.todo ns d.fresh) e (mid_going (bare vertices edges) l s r.vertices_small r.short.least r.rises d.done d.mid past);
        holds = subst (HoldsNodes s w) e d.holds;
        at = omega (arith, length-append d.done (d.node ∷ []), d.at);
        count = ap length (sym e) ∙ d.count;
        size = d.size;
      }
    where
      past : (x z : ℕ) → d.bound ≤ x → StepBy (bare vertices edges) l d.node.at x z → ⊥
      past x z b h =
          let h' = subst (λ (m : ℕ). StepBy (bare vertices edges) l m x z) d.is h in
          let (j, p, q, e) = d.all x z b h' in
          let ek' : key ≡ key_of l a = ek in
          omega (arith, step_key h', rising_le r.rises i j p q, f (omega arith))

  -- ---- one edge

  module _ {w : List ℕ} {n k a i : ℕ} (d : During (bare vertices edges) l s w n k a i) (h : i < length edges) (p : key_of l a ≤ get_or edges i 0) (q : get_or edges i 0 < key_of l a + label_unit) where
    abbrev to : ℕ
    to = ahead l a (get_or edges i 0)

    step : StepBy (bare vertices edges) l d.node.at (get_or edges i 0) to
    step = subst (λ (m : ℕ). StepBy (bare vertices edges) l m (get_or edges i 0) (ahead l a (get_or edges i 0))) (sym d.is) (key_step a i h p q)

    pub to_is : base_of l a + (get_or edges i 0 - key_of l a) ≡ to
    to_is =
        let e : (a / most_vertices + 1) % length l ≡ suc (a / most_vertices) % length l = ap (λ (m : ℕ). m % length l) (add-one (a / most_vertices)) in
        omega arith

    is_state : IsState (bare vertices edges) l to
    is_state = step_state r.vertices_small r.short.least step

    pub to_small : to < most_states
    to_small = omega (arith, is_state.bound, r.short.most)

    fresh_or_met : (to ∈ d.fresh) ⊎ Queued (d.done ++ d.node ∷ d.todo) to
    fresh_or_met = d.mid.left.rest to ((states_iff (bare vertices edges) l to).1 is_state)

    is_fresh : get_or w to 0 ≡ 0 → to ∈ d.fresh
    is_fresh e = ⊎_elim (λ m. m) (λ m. absurd (d.holds.mark_none to to_small e m)) fresh_or_met

    -- there is room for a state that has no mark
    pub room : get_or w to 0 ≡ 0 → n ≤ most_states
    room e = omega (arith, d.size, keep_shorter to d.fresh (is_fresh e))

    skipped : Mid (bare vertices edges) l s (d.done ++ d.node ∷ d.todo) d.node d.fresh (get_or edges i 0)
    skipped = mid_skip (bare vertices edges) l s r.vertices_small r.short.least r.rises d.mid (d.from i (omega arith) h)
        (λ y z b c e. let (j, u, v, t) = d.all y z b (subst (λ (m : ℕ). StepBy (bare vertices edges) l m y z) d.is e) in omega (arith, rising_le r.rises i j u v))

    further : (j : ℕ) → i + 1 ≤ j → j < length edges → suc (get_or edges i 0) ≤ get_or edges j 0
    further j u v = rising_lt r.rises i j (omega arith) v

    later : (x z : ℕ) → suc (get_or edges i 0) ≤ x → StepBy (bare vertices edges) l a x z → (j : ℕ) × (i + 1 ≤ j) × (j < length edges) × (get_or edges j 0 ≡ x)
    later x z b e =
        let (j, u, v, t) = d.all x z (omega (arith, d.from i (omega arith) h)) e in
        (j, ⊎_elim (λ c. absurd (omega (arith, ap (λ (m : ℕ). get_or edges m 0) c))) (λ c. omega arith) (eq-or-lt_of_le u), v, t)

    at_node : node_at s (d.done ++ d.node ∷ d.todo) k ≡ d.node
    at_node = get_or_at d.done d.node d.todo (start_node s) k d.at

    pub turn_old : (get_or w to 0 ≡ 0 → ⊥) → During (bare vertices edges) l s w n k a (i + 1)
    turn_old e = record {
      done = d.done;
      node = d.node;
      todo = d.todo;
      fresh = d.fresh;
      bound = suc (get_or edges i 0);
      mid = mid_old (bare vertices edges) l s r.vertices_small r.short.least r.rises skipped step (λ m. d.mid.left.unmet to m (marked_queued d.holds (d.holds.mark_some to to_small e)));
      holds = d.holds;
      at = d.at;
      count = d.count;
      size = d.size;
      is = d.is;
      from = further;
      all = later;
    }

    pub turn_new : get_or w to 0 ≡ 0 → During (bare vertices edges) l s (set (set w to n) (most_states + n) (queued_number k to (get_or edges i 0))) (suc n) k a (i + 1)
    turn_new e =
        let c = append_assoc d.done (d.node ∷ d.todo) (node_by l d.node (get_or edges i 0) ∷ []) in
        record {
          done = d.done;
          node = d.node;
          todo = d.todo ++ node_by l d.node (get_or edges i 0) ∷ [];
          fresh = keep (λ y. not (eqb y to)) d.fresh;
          bound = suc (get_or edges i 0);
          mid = subst (λ (ns : List Node). Mid (bare vertices edges) l s ns d.node (keep (λ y. not (eqb y to)) d.fresh) (suc (get_or edges i 0))) c
              (mid_new (bare vertices edges) l s r.vertices_small r.short.least r.rises skipped step (is_fresh e));
          holds = subst (HoldsNodes s (set (set w to n) (most_states + n) (queued_number k to (get_or edges i 0)))) c
              (holds_new s w (d.done ++ d.node ∷ d.todo) d.holds to n k (get_or edges i 0) (node_by l d.node (get_or edges i 0)) to_small d.count (room e)
              (omega (arith, d.at, d.count, length-append d.done (d.node ∷ d.todo))) (omega (arith, (valid_edge i h).from, r.vertices_small))
              (sym step.is) (ap (λ (m : Node). get_or edges i 0 ∷ m.back) (sym at_node)));
          at = d.at;
          count = ap length (sym c) ∙ (length-append (d.done ++ d.node ∷ d.todo) (node_by l d.node (get_or edges i 0) ∷ [])) ∙ ap (λ (m : ℕ). m + 1) d.count ∙ add-one n;
          size = omega (arith, d.size, keep_shorter to d.fresh (is_fresh e));
          is = d.is;
          from = further;
          all = later;
        }

    -- whichever reaching it does
    pub turn : {y : ℕ} {w' : List ℕ} {n' : ℕ} → y ≡ to → Enqueues w y k (get_or edges i 0) n w' n' → During (bare vertices edges) l s w' n' k a (i + 1)
    turn {y} {w'} {n'} c h = elim (ℕ_discrete (get_or w y 0) 0) [
      | yes e ↦ let (u, v) = h.new e in rw (u, v, c) (turn_new (rw c at e))
      | no e ↦ let (u, v) = h.old e in rw (u, v) (turn_old (rw c at e))
    ]

  -- the same as the code has it: the edge is at index i of those from slot `from` on, and leads to the state z
  module _ {w : List ℕ} {n k a : ℕ} (from i z : ℕ) (d : During (bare vertices edges) l s w n k a (from + i)) (h : i < length (rest edges from)) {key base : ℕ} (ek : key ≡ key_of l a) (eb : base ≡ base_of l a)
      (p : key ≤ get_or (rest edges from) i 0) (q : get_or (rest edges from) i 0 < key + label_unit) (is : z + key ≡ base + get_or (rest edges from) i 0) where
    inside : from + i < length edges
    inside = omega (arith, rest_long edges from)

    low : key_of l a ≤ get_or edges (from + i) 0
    low = omega (arith, rest_at edges from i)

    high : get_or edges (from + i) 0 < key_of l a + label_unit
    high = omega (arith, rest_at edges from i)

    to_z : z ≡ ahead l a (get_or edges (from + i) 0)
    to_z = omega (arith, to_is d inside low high, rest_at edges from i, low)

    pub reach_ready : (least_work ≤ length w) × ((z < most_states) × ((k ≤ most_states) × (get_or w z 0 ≡ 0 → n ≤ most_states)))
    reach_ready = (
      d.holds.long,
      (
        subst (λ (m : ℕ). m < most_states) (sym to_z) (to_small d inside low high),
        (omega (arith, d.at, d.count, d.size, length-append d.done (d.node ∷ d.todo)), λ e. room d inside low high (ap (λ (m : ℕ). get_or w m 0) (sym to_z) ∙ e)),
      ),
    )

    pub reach_turn : {w' : List ℕ} {n' : ℕ} → Enqueues w z k (get_or (rest edges from) i 0) n w' n' → During (bare vertices edges) l s w' n' k a (from + (i + 1))
    reach_turn {w'} {n'} t =
        let next : from + (i + 1) ≡ from + i + 1 = omega arith in
        rw next (turn d inside low high to_z (subst (λ (x : ℕ). Enqueues w z k x n w' n') (rest_at edges from i) t))

  -- no edge after the branch is one of the node's
  pub branch_over : {w : List ℕ} {n k a key : ℕ} (from i : ℕ) → During (bare vertices edges) l s w n k a (from + i) → key ≡ key_of l a
      → (i < length (rest edges from) → key + label_unit ≤ get_or (rest edges from) i 0) → Paused (bare vertices edges) l s w n (k + 1)
  branch_over from i d ek f = take_close d ek (λ h. omega (arith, rest_at edges from i, f (omega (arith, rest_long edges from))))
