-- Walks back: walks from (s, 0) over states, by their edges, the last one first. They are the walks that spell whole patterns, and they are in step
-- with the levels.
use mathlib.Core.Path.{◌≡◌, refl, sym, ap, ap₂, ◌∙◌}
use mathlib.Core.Logic.{◌⊎◌, inl, inr, ⊎_elim}
use mathlib.Core.List.{List, [], ◌∷◌, ◌++◌, reverse, reverse_aux, append-nil, append_assoc, reverse-cons, cons≢nil, head-eq_of_cons-eq, tail-eq_of_cons-eq}
use Prim.Native.Nat.{ℕ, zero, suc, ◌+◌, ◌%◌, ◌≤◌, ◌<◌}
use native.Mathlib.Nat.{eq-or-lt_of_le, mod-eq_of_lt, mod_self, mod-lt}
use native.Mathlib.Omega.{arith}
use lib.ListN.{length, get_or, take, drop}
use lib.Seq.{take-suc, drop-cons, take-length, drop-length}
use Rattle.model.specs.Lists.{◌∈◌}
use Rattle.model.specs.Limits.{most_vertices}
use Rattle.model.specs.Edges.{Graph, edge_number, to_of}
use Rattle.model.specs.Patterns.{times}
use Rattle.model.specs.Walks.{Edge, Spells}
use Rattle.model.specs.States.{IsState, state, vertex_of, used_of, Leads}
use Rattle.model.specs.Computed.Levels.{level}
use Rattle.model.proofs.Patterns.{times_last}
use Rattle.model.proofs.Levels.{vertex_state, used_state, state_zero, state_is, Met, look, level_zero, level_iff}
use Rattle.model.specs.Routes.{Walked, here, edge, Candidate}
use Rattle.model.specs.Computed.Routes.{ahead}
use Rattle.model.specs.Queue.{StepBy, WalkBack, start, on}

-- ---- a step is an edge of the next label

step_number : (g : Graph) (l : List ℕ) (a x z : ℕ) → StepBy g l a x z → edge_number (vertex_of a) (get_or l (used_of a) 0) (vertex_of z) ≡ x
step_number g l a x z h =
    let e : vertex_of z ≡ to_of x = ap vertex_of h.is ∙ vertex_state (to_of x) (suc (used_of a) % length l) (omega arith) in
    omega (arith, h.number)

pub step_leads : {g : Graph} {l : List ℕ} {a x z : ℕ} → StepBy g l a x z → Leads g.edges l a z
step_leads {g} {l} {a} {x} {z} h = record {
  next = ap used_of h.is ∙ used_state (to_of x) (suc (used_of a) % length l) (omega arith);
  stands = rw (step_number g l a x z h) h.stands;
}

pub step_state : {g : Graph} {l : List ℕ} {a x z : ℕ} → g.vertices ≤ most_vertices → 1 ≤ length l → StepBy g l a x z → IsState g l z
step_state {g} {l} {a} {x} {z} small full h = rw h.is (state_is g l (to_of x) (suc (used_of a) % length l) small h.to (mod-lt (suc (used_of a)) full))

pub leads_step : {g : Graph} {l : List ℕ} {a z : ℕ} → IsState g l z → Leads g.edges l a z → StepBy g l a (edge_number (vertex_of a) (get_or l (used_of a) 0) (vertex_of z)) z
leads_step {g} {l} {a} {z} q h =
    let e : to_of (edge_number (vertex_of a) (get_or l (used_of a) 0) (vertex_of z)) ≡ vertex_of z = omega arith in
    record {
      stands = h.stands;
      number = omega arith;
      to = rw e q.vertex;
      is = rw (e, ← h.next) (omega arith);
    }

-- ---- a walk's edges determine the state that it ends in
pub back_same : {g : Graph} {l : List ℕ} {s : ℕ} {a b : ℕ} {p q : List ℕ} → WalkBack g l s a p → WalkBack g l s b q → p ≡ q → a ≡ b
back_same start start e = refl
back_same start (on u k) e = absurd (cons≢nil (sym e))
back_same (on t h) start e = absurd (cons≢nil e)
back_same {l = l} (on t h) (on u k) e = h.is ∙ ap₂ (λ (a : ℕ) (x : ℕ). ahead l a x) (back_same t u (tail-eq_of_cons-eq e)) (head-eq_of_cons-eq e) ∙ sym k.is

-- ---- levels

module _ (g : Graph) (l : List ℕ) (s : ℕ) where
  -- a state of level i has a walk back of i edges
  pub level_back : (i z : ℕ) → z ∈ level g l s i → (p : List ℕ) × WalkBack g l s z p × (length p ≡ i)
  level_back zero z m = let e : z ≡ state s 0 = (level_zero g l s z).0 m ∙ sym (state_zero s) in ([], rw e start, refl)
  level_back (suc i) z m =
      let r = (level_iff g l s i z).0 m in
      let (a, k, led) = r.source in
      let (p, t, e) = level_back i a k in
      (_, on t (leads_step r.is_state led), ap suc e)

  -- a walk back of i edges ends in a state that is met by level i
  pub back_met : g.vertices ≤ most_vertices → 1 ≤ length l → {a x z : ℕ} {p : List ℕ} → WalkBack g l s a p → StepBy g l a x z → Met g l s (suc (length p)) z
  back_met small full start h = go 0 (omega arith) ((level_zero g l s (state s 0)).1 (state_zero s)) h
    where
      go : (j : ℕ) → j ≤ 0 → {a x z : ℕ} → a ∈ level g l s j → StepBy g l a x z → Met g l s 1 z
      go j k {a} {x} {z} m h = ⊎_elim
          (λ f. record { at = suc j; first = omega arith; last = omega arith; stands = (level_iff g l s j z).1 (record { is_state = step_state small full h; fresh = f; source = (a, m, step_leads h) }) })
          (λ d. record { at = d.at; first = d.first; last = omega (arith, d.last); stands = d.stands }) (look g l s j z)
  back_met small full (on {a = b} {p = p} t k) h = go (back_met small full t k) h
    where
      go : {a x z : ℕ} → Met g l s (suc (length p)) a → StepBy g l a x z → Met g l s (suc (suc (length p))) z
      go {a} {x} {z} m h = ⊎_elim
          (λ f. record { at = suc m.at; first = omega arith; last = omega (arith, m.last); stands = (level_iff g l s m.at z).1 (record { is_state = step_state small full h; fresh = f; source = (a, m.stands, step_leads h) }) })
          (λ d. record { at = d.at; first = d.first; last = omega (arith, d.last, m.last); stands = d.stands }) (look g l s m.at z)

-- ---- words

module _ {g : Graph} where
  pub walked_spells : {s t : ℕ} {w es : List ℕ} → Walked g s w es t → Spells g s w t
  walked_spells here = Spells.here
  walked_spells (edge e p) = Spells.edge e (walked_spells p)

  pub spells_walked : {s t : ℕ} {w : List ℕ} → Spells g s w t → (es : List ℕ) × Walked g s w es t
  spells_walked Spells.here = ([], here)
  spells_walked (Spells.edge e p) = let (es, q) = spells_walked p in (_, edge e q)

  -- one edge more at the end
  snoc : {s a c b : ℕ} {w es : List ℕ} → Walked g s w es a → Edge g a c b → Walked g s (w ++ c ∷ []) (es ++ edge_number a c b ∷ []) b
  snoc here e = edge e here
  snoc (edge d p) e = edge d (snoc p e)

  still : {s t : ℕ} {w es : List ℕ} → w ≡ [] → Walked g s w es t → (s ≡ t) × (es ≡ [])
  still e here = (refl, refl)
  still e (edge _ p) = absurd (cons≢nil e)

times_none : (l : List ℕ) → times 0 l ≡ []
unfolding times
times_none l = refl

times_more : (j : ℕ) (l : List ℕ) → times (suc j) l ≡ l ++ times j l
unfolding times
times_more j l = refl

-- l written once more, at the end
times_snoc : (j : ℕ) (l : List ℕ) → times j l ++ l ≡ times (suc j) l
times_snoc j l = times_last j l ∙ sym (times_more j l)

module _ (g : Graph) (l : List ℕ) (s : ℕ) (small : g.vertices ≤ most_vertices) (full : 1 ≤ length l) where
  edge_step : {a c b : ℕ} (i : ℕ) → Edge g a c b → get_or l i 0 ≡ c → StepBy g l (state a i) (edge_number a c b) (state b (suc i % length l))
  edge_step {a} {c} {b} i e h =
      let v : vertex_of (state a i) ≡ a = vertex_state a i (omega (arith, e.from)) in
      let u : used_of (state a i) ≡ i = used_state a i (omega (arith, e.from)) in
      let to : to_of (edge_number a c b) ≡ b = omega (arith, e.to) in
      record {
        stands = e.stands;
        number = rw (v, u, h) (omega (arith, e.to));
        to = rw to e.to;
        is = rw (to, u) refl;
      }

  -- a walk that spells the rest of a pattern and then whole ones, behind a walk back to where the rest begins
  walked_on : {a t : ℕ} {w es p : List ℕ} (i j : ℕ) → Walked g a w es t → i < length l → w ≡ drop i l ++ times j l → WalkBack g l s (state a i) p → WalkBack g l s (state t 0) (reverse_aux es p)
  walked_on i j here h e t = absurd (cons≢nil (sym (e ∙ ap (λ (m : List ℕ). m ++ times j l) (drop-cons l i 0 h))))
  walked_on {t = t} {p = p} i j (edge {a = a} {c = c} {b = b} {w = w} {es = es} d q) h e u = go (λ i j h e t. walked_on i j q h e t) (eq-or-lt_of_le h)
    where
      both : c ∷ w ≡ get_or l i 0 ∷ (drop (suc i) l ++ times j l)
      both = e ∙ ap (λ (m : List ℕ). m ++ times j l) (drop-cons l i 0 h)

      rest : w ≡ drop (suc i) l ++ times j l
      rest = tail-eq_of_cons-eq both

      further : WalkBack g l s (state b (suc i % length l)) (edge_number a c b ∷ p)
      further = on u (edge_step i d (sym (head-eq_of_cons-eq both)))

      whole : (j : ℕ) → ((i j : ℕ) → i < length l → w ≡ drop i l ++ times j l → WalkBack g l s (state b i) (edge_number a c b ∷ p) → WalkBack g l s (state t 0) (reverse_aux es (edge_number a c b ∷ p)))
          → w ≡ times j l → WalkBack g l s (state b 0) (edge_number a c b ∷ p) → WalkBack g l s (state t 0) (reverse_aux es (edge_number a c b ∷ p))
      whole zero f k u = let (x, y) = still (k ∙ times_none l) q in rw (← x, y) u
      whole (suc j) f k u = f 0 j full (k ∙ times_more j l) u

      go : ((i j : ℕ) → i < length l → w ≡ drop i l ++ times j l → WalkBack g l s (state b i) (edge_number a c b ∷ p) → WalkBack g l s (state t 0) (reverse_aux es (edge_number a c b ∷ p)))
          → (suc i ≡ length l) ⊎ (suc i < length l) → WalkBack g l s (state t 0) (reverse_aux es (edge_number a c b ∷ p))
      go f (inl k) =
          let n : suc i % length l ≡ 0 = rw (k, mod_self) in
          let r : drop (suc i) l ≡ [] = rw (k, drop-length) in
          whole j f (rest ∙ ap (λ (m : List ℕ). m ++ times j l) r) (rw n at further)
      go f (inr k) = f (suc i) j k rest (rw (mod-eq_of_lt k) at further)

  pub candidate_back : {t : ℕ} {es : List ℕ} → Candidate g l s t es → WalkBack g l s (state t 0) (reverse es)
  candidate_back c = walked_on 0 c.more c.walk full (times_more c.more l) start

  -- and back: whole patterns, and then the labels used
  record Spelt (z : ℕ) (p : List ℕ) : Type 0 where
    often : ℕ
    inside : used_of z < length l
    vertex : vertex_of z < g.vertices
    walk : Walked g s (times often l ++ take (used_of z) l) (reverse p) (vertex_of z)
    whole : 1 ≤ length p → used_of z ≡ 0 → 1 ≤ often

  further : {a x z : ℕ} {p : List ℕ} → Spelt a p → StepBy g l a x z → Spelt z (x ∷ p)
  further {a} {x} {z} {p} r h = go (eq-or-lt_of_le r.inside)
    where
      led : Leads g.edges l a z
      led = step_leads h

      st : IsState g l z
      st = step_state small full h

      onward : Walked g s (times r.often l ++ take (suc (used_of a)) l) (reverse (x ∷ p)) (vertex_of z)
      onward =
          let e : Edge g (vertex_of a) (get_or l (used_of a) 0) (vertex_of z) = record { from = r.vertex; to = st.vertex; stands = led.stands } in
          let q = snoc r.walk e in
          rw (reverse-cons x p, ← step_number g l a x z h, take-suc l (used_of a) 0 r.inside, ← append_assoc (times r.often l) (take (used_of a) l) (get_or l (used_of a) 0 ∷ [])) q

      go : (suc (used_of a) ≡ length l) ⊎ (suc (used_of a) < length l) → Spelt z (x ∷ p)
      go (inl e) =
          let n : used_of z ≡ 0 = led.next ∙ rw (e, mod_self) in
          record {
            often = suc r.often;
            inside = omega arith;
            vertex = st.vertex;
            walk = rw (n, append-nil, ← times_snoc r.often l) (rw (e, take-length) at onward);
            whole = λ _ _. omega arith;
          }
      go (inr k) =
          let n : used_of z ≡ suc (used_of a) = led.next ∙ mod-eq_of_lt k in
          record { often = r.often; inside = omega arith; vertex = st.vertex; walk = rw n onward; whole = λ _ u. absurd (omega arith) }

  spelt : {z : ℕ} {p : List ℕ} → s < g.vertices → WalkBack g l s z p → Spelt z p
  spelt hs start =
      let v : vertex_of (state s 0) ≡ s = vertex_state s 0 (omega arith) in
      let u : used_of (state s 0) ≡ 0 = used_state s 0 (omega arith) in
      record { often = 0; inside = omega arith; vertex = rw v hs; walk = rw (u, v, times_none l) here; whole = λ k _. absurd (omega arith) }
  spelt hs (on t h) = further (spelt hs t) h

  pub back_candidate : {t : ℕ} {p : List ℕ} → s < g.vertices → t < g.vertices → 1 ≤ length p → WalkBack g l s (state t 0) p → Candidate g l s t (reverse p)
  back_candidate {t} {p} hs ht k tr = go r.often (r.whole k u) (rw (u, append-nil, v) at r.walk)
    where
      r : Spelt (state t 0) p
      r = spelt hs tr

      v : vertex_of (state t 0) ≡ t
      v = vertex_state t 0 (omega arith)

      u : used_of (state t 0) ≡ 0
      u = used_state t 0 (omega arith)

      go : (j : ℕ) → 1 ≤ j → Walked g s (times j l) (reverse p) t → Candidate g l s t (reverse p)
      go zero h w = absurd (omega arith)
      go (suc j) h w = record { more = j; walk = w }
