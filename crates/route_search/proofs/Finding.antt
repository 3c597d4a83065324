-- The search from its start to its end: work memory as it is set up, a queued state's position in the pattern, and what is found.
use mathlib.Core.Path.{◌≡◌, refl, sym, ap, ◌∙◌, subst}
use mathlib.Core.List.Memᴰ
use mathlib.Core.List.{List, [], ◌∷◌, ◌++◌, append-nil}
use Prim.Native.Nat.{ℕ, ◌*◌, ◌≤◌, ◌<◌}
use native.Mathlib.Nat.{le_refl}
use native.Mathlib.Omega.{arith}
use lib.ListN.{length, get_or, set, replicate, length-set, length-append, length-replicate, get_or-replicate}
use lib.Seq.{get_or-set_same, get_or-set_other}
use Rattle.std.specs.Prelude.{Some, None}
use Rattle.model.specs.Limits.{most_vertices, least_work}
use Rattle.model.specs.Lists.{zeroed}
use Rattle.model.specs.Walks.{Runs}
use Rattle.model.specs.States.{state, IsState}
use Rattle.model.specs.Computed.Edges.{bare}
use Rattle.model.specs.Computed.Levels.{most_states, states, stage}
use Rattle.model.specs.Computed.Routes.{Node, start_node}
use Rattle.model.specs.Queue.{WalkBack, start, on, Queued, Going}
use Rattle.model.proofs.Levels.{state_is, state_zero, fresh_size}
use Rattle.model.proofs.WalksBack.{step_state}
use Rattle.model.proofs.Routes.{met_route}
use Rattle.model.proofs.RouteSearch.{starts, going_end, whole_met}
use Rattle.frontier.specs.Search.{Searchable}
use Rattle.route_search.specs.Work.{queued_number, state_at, node_at, Paused}
use Rattle.route_search.specs.Traced.{Traced}
use Rattle.route_search.proofs.Holding.{node_in, marked_long, holds_chain}

module _ {vertices : ℕ} {edges l : List ℕ} {s t : ℕ} (r : Searchable vertices edges l s t) where
  back_state : {a : ℕ} {p : List ℕ} → WalkBack (bare vertices edges) l s a p → IsState (bare vertices edges) l a
  back_state start = state_is (bare vertices edges) l s 0 r.vertices_small r.start r.short.least
  back_state (on t h) = step_state r.vertices_small r.short.least h

  -- a node's state has its position in the pattern
  node_state : {w : List ℕ} {n k : ℕ} (d : Paused (bare vertices edges) l s w n k) (j : ℕ) → j < length (d.done ++ d.todo)
      → (node_at s (d.done ++ d.todo) j).at < length l * most_vertices
  node_state d j h = (back_state (d.going.firsts.walks (node_at s (d.done ++ d.todo) j) (node_in s (d.done ++ d.todo) j h))).bound

  pub paused_state : {w : List ℕ} {n k : ℕ} → Paused (bare vertices edges) l s w n k → k < n → state_at w k < length l * most_vertices
  paused_state {k = k} d h =
      let b : k < length (d.done ++ d.todo) = omega (arith, d.count) in
      subst (λ (a : ℕ). a < length l * most_vertices) (sym (d.holds.state_of k b)) (node_state d k b)

  states_size : length (states (bare vertices edges) l) ≤ length l * most_vertices
  unfolding stage
  states_size = fresh_size (bare vertices edges) l s

  -- ---- the start

  module _ (m : ℕ) (long : least_work ≤ m) where
    abbrev put : List ℕ
    put = set (replicate m 0) most_states (queued_number 0 s 0)

    put_zero : (y : ℕ) → y < most_states → get_or put y 0 ≡ 0
    put_zero y h = get_or-set_other (replicate m 0) most_states y (queued_number 0 s 0) 0 (omega arith) ∙ get_or-replicate m y 0 0 (omega arith)

    pub paused_start : Paused (bare vertices edges) l s put 1 0
    paused_start = record {
      done = [];
      todo = start_node s ∷ [];
      fresh = states (bare vertices edges) l;
      going = starts (bare vertices edges) l s r.vertices_small r.short.least r.rises;
      holds = record {
        long = omega (arith, length-set (replicate m 0) most_states (queued_number 0 s 0), length-replicate {A = ℕ} m 0);
        root = refl;
        state_of = λ k h. at k (omega arith);
        link_of = λ k a b. absurd (omega arith);
        mark_none = λ y a e t. let q : t.node ≡ start_node s = Memᴰ.eq_of_singleton t.among in omega (arith, t.long, ap (λ (n : Node). length n.back) q);
        mark_some = λ y a e. absurd (e (put_zero y a));
      };
      at = refl;
      count = refl;
      size = omega (arith, states_size, r.short.most);
    }
      where
        at : (k : ℕ) → k ≡ 0 → state_at put k ≡ (node_at s (start_node s ∷ []) k).at
        at k e =
            let q : get_or put most_states 0 ≡ queued_number 0 s 0 = get_or-set_same (replicate m 0) most_states (queued_number 0 s 0) 0 (omega (arith, length-replicate {A = ℕ} m 0)) in
            rw e (omega (arith, q, r.start, r.vertices_small))

  module _ {w : List ℕ} {n k : ℕ} (d : Paused (bare vertices edges) l s w n k) where
    small : t < most_states
    small = omega (arith, r.destination, r.vertices_small)

    -- the state (t, 0) is queued
    pub paused_found : ¬ (get_or w t 0 ≡ 0) → Traced (bare vertices edges) l s t w (Some (get_or w t 0))
    paused_found e =
        let m = d.holds.mark_some t small e in
        let c = holds_chain d.holds (λ k h. omega (arith, node_state d k h, r.short.most)) (get_or w t 0) (get_or w t 0) (le_refl (get_or w t 0)) m.inside in
        record {
          long = d.holds.long;
          found = record {
            positive = m.positive;
            small = omega (arith, m.inside, d.count, d.size);
            walk = (node_at s (d.done ++ d.todo) (get_or w t 0)).back;
            chain = c;
            route = met_route (bare vertices edges) l s t r.vertices_small r.short.least r.start r.destination d.going.firsts
                (record { node = node_at s (d.done ++ d.todo) (get_or w t 0); among = node_in s (d.done ++ d.todo) (get_or w t 0) m.inside; is = m.is ∙ sym (state_zero t); long = marked_long d.holds m });
          };
        }

    -- all nodes are taken, and it is not
    ended : (todo : List Node) → d.todo ≡ todo → n ≤ k → get_or w t 0 ≡ 0 → ¬ Runs (bare vertices edges) l s t
    ended [] e b z run =
        let f = going_end (bare vertices edges) l s r.vertices_small r.short.least r.rises (subst (λ (ns : List Node). Going (bare vertices edges) l s d.done ns (d.done ++ d.todo) d.fresh) e d.going) in
        let m = whole_met (bare vertices edges) l s t r.vertices_small r.short.least r.rises r.start r.destination f run in
        let same : d.done ++ d.todo ≡ d.done = ap (λ (ns : List Node). d.done ++ ns) e ∙ append-nil d.done in
        d.holds.mark_none t small z (subst (Queued (d.done ++ d.todo)) (state_zero t) (subst (λ (ns : List Node). Queued ns (state t 0)) (sym same) m))
    ended (p ∷ todo) e b z run = omega (arith, d.at, d.count, length-append d.done d.todo, ap length e)

    pub paused_none : n ≤ k → get_or w t 0 ≡ 0 → Traced (bare vertices edges) l s t w None
    paused_none b z = record { long = d.holds.long; found = ended d.todo refl b z }

  -- work memory that was zero
  pub paused_begin : (w : List ℕ) → least_work ≤ length w → w ≡ zeroed w
      → Paused (bare vertices edges) l s (set w most_states (queued_number 0 s 0)) 1 0 × (get_or (set w most_states (queued_number 0 s 0)) t 0 ≡ 0)
  paused_begin w long e =
      subst (λ (m : List ℕ). Paused (bare vertices edges) l s (set m most_states (queued_number 0 s 0)) 1 0 × (get_or (set m most_states (queued_number 0 s 0)) t 0 ≡ 0)) (sym e)
      (paused_start (length w) long, put_zero (length w) long t (omega (arith, r.destination, r.vertices_small)))
