-- Laws of walks: to run a pattern is to spell it whole times, and what stops come to.
use mathlib.Core.Path.{◌≡◌, refl}
use mathlib.Core.Logic.{◌⊎◌, inl, inr, ⊎_elim, ⊎_map, ◌↔◌}
use mathlib.Core.List.Memᴰ
use mathlib.Core.List.{List, [], ◌∷◌, ◌++◌, append-nil, cons≢nil}
use Prim.Native.Nat.{ℕ, zero, suc, ◌<◌}
use Rattle.model.specs.Lists.{◌∈◌}
use Rattle.model.specs.Edges.{Graph}
use Rattle.model.specs.Patterns.{times}
use Rattle.model.specs.Walks.{Spells, here, edge, Runs, once, more, stops, Stop}
use Rattle.model.specs.Build.Hubs.{Between}

module _ {g : Graph} where
  pub join : {s m t : ℕ} {v w : List ℕ} → Spells g s v m → Spells g m w t → Spells g s (v ++ w) t
  join here q = q
  join (edge e p) q = edge e (join p q)

  pub cut : {s t : ℕ} (v : List ℕ) {w : List ℕ} → Spells g s (v ++ w) t → (m : ℕ) × Spells g s v m × Spells g m w t
  cut {s} [] p = (s, here, p)
  cut (c ∷ v) (edge e p) = let (m, q, r) = cut v p in (m, edge e q, r)

  pub still : {s t : ℕ} {w : List ℕ} → w ≡ [] → Spells g s w t → s ≡ t
  still e here = refl
  still e (edge _ p) = absurd (cons≢nil e)

  pub spells_to : {s t : ℕ} {w : List ℕ} → Spells g s w t → s < g.vertices → t < g.vertices
  spells_to here h = h
  spells_to (edge e p) h = spells_to p e.to

module _ {g : Graph} {l : List ℕ} where
  -- to run l is to spell it one or more whole times
  pub runs_spells : {s t : ℕ} → Runs g l s t → (j : ℕ) × Spells g s (times (suc j) l) t
  unfolding times
  runs_spells (once p) = (0, rw append-nil p)
  runs_spells (more p r) = let (j, q) = runs_spells r in (suc j, join p q)

  pub spells_runs : {s t : ℕ} (j : ℕ) → Spells g s (times (suc j) l) t → Runs g l s t
  unfolding times
  spells_runs zero p = once (rw append-nil at p)
  spells_runs {s = s} {t = t} (suc j) p = let (m, q, r) = cut l p in more q (spells_runs {s = m} j r)

  pub runs_trans : {s m t : ℕ} → Runs g l s m → Runs g l m t → Runs g l s t
  runs_trans (once p) q = more p q
  runs_trans (more p r) q = more p (runs_trans r q)

  pub runs_to : {s t : ℕ} → Runs g l s t → s < g.vertices → t < g.vertices
  runs_to (once p) h = spells_to p h
  runs_to (more p r) h = runs_to r (spells_to p h)

  pub stops_start : {s t : ℕ} (p : Runs g l s t) → s ∈ stops p
  unfolding stops
  stops_start (once p) = Memᴰ.head refl
  stops_start (more p r) = Memᴰ.head refl

  pub stops_end : {s t : ℕ} (p : Runs g l s t) → t ∈ stops p
  unfolding stops
  stops_end (once p) = Memᴰ.tail (Memᴰ.head refl)
  stops_end (more p r) = Memᴰ.tail (stops_end r)

  stops_between : {s t u : ℕ} (p : Runs g l s t) → u ∈ stops p → Between g l s t u
  unfolding stops
  stops_between (once p) h = ⊎_elim inl (λ k. inr (inl (Memᴰ.eq_of_singleton k))) (Memᴰ.cases_cons h)
  stops_between {s} {t} {u} (more {m = m} p r) h = ⊎_elim inl (λ k. later (stops_between r k)) (Memᴰ.cases_cons h)
    where
      later : Between g l m t u → Between g l s t u
      later (inl e) = inr (inr (rw e (once p, r)))
      later (inr (inl e)) = inr (inl e)
      later (inr (inr (v, w))) = inr (inr (more p v, w))

  -- the stops of a walk and then another are the stops of the two
  pub stops_left : {s m t u : ℕ} (p : Runs g l s m) (q : Runs g l m t) → u ∈ stops p → u ∈ stops (runs_trans p q)
  unfolding stops runs_trans
  stops_left (once p) q h = ⊎_elim (λ e. Memᴰ.head e) (λ k. Memᴰ.tail (Memᴰ.cast (Memᴰ.eq_of_singleton k) (stops_start q))) (Memᴰ.cases_cons h)
  stops_left (more p r) q h = ⊎_elim (λ e. Memᴰ.head e) (λ k. Memᴰ.tail (stops_left r q k)) (Memᴰ.cases_cons h)

  pub stops_right : {s m t u : ℕ} (p : Runs g l s m) (q : Runs g l m t) → u ∈ stops q → u ∈ stops (runs_trans p q)
  unfolding stops runs_trans
  stops_right (once p) q h = Memᴰ.tail h
  stops_right (more p r) q h = Memᴰ.tail (stops_right r q h)

  pub stops_split : {s m t u : ℕ} (p : Runs g l s m) (q : Runs g l m t) → u ∈ stops (runs_trans p q) → (u ∈ stops p) ⊎ (u ∈ stops q)
  unfolding stops runs_trans
  stops_split (once p) q h = ⊎_elim (λ e. inl (Memᴰ.head e)) inr (Memᴰ.cases_cons h)
  stops_split (more p r) q h = ⊎_elim (λ e. inl (Memᴰ.head e)) (λ k. ⊎_map (λ a. Memᴰ.tail a) (λ b. b) (stops_split r q k)) (Memᴰ.cases_cons h)

  pub stop_start : {s t : ℕ} → Runs g l s t → Stop g l s t s
  stop_start r = record { walk = r; among = stops_start r }

  pub stop_end : {s t : ℕ} → Runs g l s t → Stop g l s t t
  stop_end r = record { walk = r; among = stops_end r }

  pub stop_left : {s m t u : ℕ} → Stop g l s m u → Runs g l m t → Stop g l s t u
  stop_left h q = record { walk = runs_trans h.walk q; among = stops_left h.walk q h.among }

  pub stop_right : {s m t u : ℕ} → Runs g l s m → Stop g l m t u → Stop g l s t u
  stop_right p h = record { walk = runs_trans p h.walk; among = stops_right p h.walk h.among }

  pub stop_iff : {s t u : ℕ} → Stop g l s t u ↔ (Runs g l s t × Between g l s t u)
  stop_iff {s} {t} {u} = (λ h. (h.walk, stops_between h.walk h.among), λ h. back h.0 h.1)
    where
      back : Runs g l s t → Between g l s t u → Stop g l s t u
      back r (inl e) = rw e (stop_start r)
      back r (inr (inl e)) = rw e (stop_end r)
      back r (inr (inr (p, q))) = stop_right p (stop_start q)

  pub stop_to : {s t u : ℕ} → Stop g l s t u → s < g.vertices → u < g.vertices
  stop_to {s} {t} {u} h k = go (stop_iff.0 h).1
    where
      go : Between g l s t u → u < g.vertices
      go (inl e) = rw e k
      go (inr (inl e)) = rw e (runs_to h.walk k)
      go (inr (inr (p, q))) = runs_to p k
