-- Work memory stands at level c: the queue from lo up to hi is level c, and the marks are levels 1 to c. So it stands at the start, and
-- after each level that is built; and how the reply goes on from there.
use mathlib.Core.Path.{◌≡◌, sym, ◌∙◌, subst}
use mathlib.Core.List.{List}
use mathlib.Core.Logic.{⊎_elim}
use Prim.Native.Nat.{ℕ, suc, ◌+◌, ◌/◌, ◌≤◌, ◌<◌, zero-le}
use native.Mathlib.Nat.{le_refl, eq-or-lt_of_le, le_of_suc-le-suc}
use native.Mathlib.Omega.{arith}
use lib.ListN.{get_or, set, length-set}
use lib.Seq.{get_or-set_same, get_or-set_other}
use Rattle.model.specs.Limits.{most_vertices}
use Rattle.model.specs.Lists.{◌∈◌}
use Rattle.model.specs.States.{IsState, vertex_of, Leads}
use Rattle.model.specs.Computed.Edges.{bare}
use Rattle.model.specs.Computed.Levels.{most_states, level}
use Rattle.model.specs.Levels.{Fresh, Reached}
use Rattle.model.proofs.Levels.{Met, look, level_zero, level_iff}
use Rattle.model.proofs.Edges.{edge_to}
use Rattle.frontier.specs.Work.{queue, Room, Unmarked, At, Grown, LedTo, Fit}
use Rattle.frontier.specs.Search.{Searchable}
use Rattle.frontier.proofs.Marks.{marks_far, marks_none}
use Rattle.frontier.proofs.Leads.{leads_fit}

module _ (vertices : ℕ) (edges l : List ℕ) (s : ℕ) where
  pub record LevelStands (c : ℕ) (w : List ℕ) (lo hi : ℕ) : Type 0 where
    pub room : Room w hi
    pub ends : lo ≤ hi
    pub fit : Fit l w lo hi
    pub in_level : (k : ℕ) → lo ≤ k → k < hi → queue w k ∈ level (bare vertices edges) l s c
    pub all_level : (y : ℕ) → y ∈ level (bare vertices edges) l s c → At w lo hi y
    pub in_met : (y : ℕ) → y < most_states → get_or w y 0 ≡ 1 → Met (bare vertices edges) l s c y
    pub all_met : (y : ℕ) → Met (bare vertices edges) l s c y → (y < most_states) × (get_or w y 0 ≡ 1)

  -- what is met by level c is met by the next
  met_later : {c y : ℕ} → Met (bare vertices edges) l s c y → Met (bare vertices edges) l s (suc c) y
  met_later m = record { at = m.at; first = m.first; last = omega (arith, m.last); stands = m.stands }

  pub met_now : {c y : ℕ} → y ∈ level (bare vertices edges) l s (suc c) → Met (bare vertices edges) l s (suc c) y
  met_now {c} m = record { at = suc c; first = omega arith; last = le_refl (suc c); stands = m }

  module _ {t : ℕ} (p : Searchable vertices edges l s t) {c : ℕ} {w : List ℕ} {lo hi : ℕ} (a : LevelStands c w lo hi) {w' : List ℕ} {end : ℕ} (g : Grown w hi w' end (LedTo edges l w lo hi)) where
    next_state : (y : ℕ) → LedTo edges l w lo hi y → IsState (bare vertices edges) l y
    next_state y n = record {
      bound = leads_fit edges l (queue w n.k) y p.short n.led;
      vertex = edge_to vertices (vertex_of (queue w n.k)) (get_or l (queue w n.k / most_vertices) 0) (vertex_of y) (omega arith) (p.valid _ n.led.stands);
    }

    -- a state that is led to and fresh is in the next level
    next_level : (y : ℕ) → LedTo edges l w lo hi y → Fresh (bare vertices edges) l s c y → y ∈ level (bare vertices edges) l s (suc c)
    next_level y n f = (level_iff (bare vertices edges) l s c y).1
        (record { is_state = next_state y n; fresh = f; source = (queue w n.k, a.in_level n.k n.from n.to, n.led) })

    -- and a state of the next level is led to
    level_next : (y : ℕ) → Reached (bare vertices edges) l s c y → LedTo edges l w lo hi y
    level_next y r =
        let (x, m, led) = r.source in
        let q = a.all_level x m in
        record { k = q.k; from = q.from; to = q.to; led = subst (λ (z : ℕ). Leads edges l z y) (sym q.is) led }

    level_small : {y : ℕ} → Reached (bare vertices edges) l s c y → y < most_states
    level_small r = omega (arith, r.is_state.bound, p.short.most)

    queued : (k : ℕ) → hi ≤ k → k < end → queue w' k ∈ level (bare vertices edges) l s (suc c)
    queued k h b = next_level _ (g.by k h b) (λ j f e m. g.new k h b (a.all_met _ (record { at = j; first = f; last = e; stands = m })).1)

    pub stands_next : LevelStands (suc c) w' hi end
    stands_next = record {
      room = g.room a.room;
      ends = g.more;
      fit = λ k h b. ((level_iff (bare vertices edges) l s c _).0 (queued k h b)).is_state.bound;
      in_level = queued;
      all_level = λ y m.
          let r = (level_iff (bare vertices edges) l s c y).0 m in
          g.found y (level_small r) (level_next y r) (λ e. let d = a.in_met y (level_small r) e in r.fresh d.at d.first d.last d.stands);
      in_met = λ y h e. ⊎_elim (λ m. met_later (a.in_met y h m))
          (λ n. ⊎_elim (λ f. met_now (next_level y n f)) met_later (look (bare vertices edges) l s c y)) (g.only y h e);
      all_met = λ y m. ⊎_elim
          (λ e. let r = (level_iff (bare vertices edges) l s c y).0 (rw e at m.stands) in (level_small r, g.marked y (level_small r) (level_next y r)))
          (λ b. let (h, e) = a.all_met y (record { at = m.at; first = m.first; last = le_of_suc-le-suc b; stands = m.stands }) in (h, g.still y h e))
          (eq-or-lt_of_le m.last);
    }

  -- at the start
  pub stands_first : {t : ℕ} → Searchable vertices edges l s t → {w : List ℕ} → Unmarked w → LevelStands 0 (set w most_states s) 0 1
  stands_first p {w} u = record {
    room = record {
      long = omega (arith, length-set w most_states s, u.long);
      count = omega (arith, marks_far w most_states s (le_refl most_states), marks_none w u.zeros);
    };
    ends = zero-le;
    fit = λ k _ q. omega (arith, queue_is k q, p.start, p.vertices_small, p.short.least);
    in_level = λ k _ q. (level_zero (bare vertices edges) l s _).1 (queue_is k q);
    all_level = λ y m. record { k = 0; from = zero-le; to = omega arith; is = queue_is 0 (omega arith) ∙ sym ((level_zero (bare vertices edges) l s y).0 m) };
    in_met = λ y h e. absurd (omega (arith, mark_is y h));
    all_met = λ y m. absurd (omega (arith, m.first, m.last));
  }
    where
      queue_is : (k : ℕ) → k < 1 → queue (set w most_states s) k ≡ s
      queue_is k q = rw (zero_of k q) (get_or-set_same w most_states s 0 (omega (arith, u.long)))
        where
          zero_of : (k : ℕ) → k < 1 → most_states + k ≡ most_states
          zero_of k q = omega arith

      mark_is : (y : ℕ) → y < most_states → get_or (set w most_states s) y 0 ≡ 0
      mark_is y h = get_or-set_other w most_states y s 0 (omega arith) ∙ u.zeros y h
