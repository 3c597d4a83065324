-- Laws of routes: there is at most one, it runs the pattern, its length is the first level that has (t, 0), and the queue's node is it.
use mathlib.Core.Path.{◌≡◌, refl, sym, ap, ◌∙◌, subst}
use mathlib.Core.Logic.{◌⊎◌, inl, inr}
use mathlib.Core.List.{List, reverse, reverse-reverse}
use Prim.Native.Nat.{ℕ, zero, suc, ◌+◌, ◌*◌, ◌≤◌, ◌<◌}
use native.Mathlib.Nat.{eq-or-lt_of_le, le_antisymm}
use native.Mathlib.Decide.{dec_lt}
use native.Mathlib.Omega.{arith}
use lib.ListN.{length, length-reverse}
use Rattle.model.specs.Lists.{◌∈◌}
use Rattle.model.specs.Limits.{most_vertices}
use Rattle.model.specs.Edges.{Graph}
use Rattle.model.specs.Walks.{Runs}
use Rattle.model.specs.States.{state, Yes}
use Rattle.model.specs.Computed.Levels.{stage, level, level_reply}
use Rattle.model.specs.Levels.{Told, found}
use Rattle.model.proofs.Lists.{member_long}
use Rattle.model.proofs.Patterns.{length_times}
use Rattle.model.proofs.Walks.{runs_spells, spells_runs}
use Rattle.model.proofs.Levels.{Met, level_iff, level_size, fresh_size}
use Rattle.model.proofs.Search.{told}
use Rattle.model.specs.Routes.{Walked, here, edge, Candidate, Route}
use Rattle.model.specs.Computed.Routes.{Node}
use Rattle.model.specs.Queue.{◌≼◌, WalkBack, start, on, Queued, FirstWalks}
use Rattle.model.proofs.Before.{le_length, le_sub, sub_antisymm}
use Rattle.model.proofs.WalksBack.{level_back, back_met, walked_spells, spells_walked, candidate_back, back_candidate}

-- there is one route at most
pub route_unique : {g : Graph} {l : List ℕ} {s t : ℕ} {es fs : List ℕ} → Route g l s t es → Route g l s t fs → es ≡ fs
route_unique {es = es} {fs = fs} p q =
    let e : length es ≡ length fs = le_antisymm (p.fewest fs q.runs) (q.fewest es p.runs) in
    sub_antisymm (p.first fs q.runs e) (q.first es p.runs (sym e))

-- candidates are the walks that run l
pub candidate_runs : {g : Graph} {l : List ℕ} {s t : ℕ} {es : List ℕ} → Candidate g l s t es → Runs g l s t
candidate_runs c = spells_runs c.more (walked_spells c.walk)

pub runs_candidate : {g : Graph} {l : List ℕ} {s t : ℕ} → Runs g l s t → (es : List ℕ) × Candidate g l s t es
runs_candidate r = let (j, p) = runs_spells r in let (es, w) = spells_walked p in (es, record { more = j; walk = w })

walked_length : {g : Graph} {s t : ℕ} {w es : List ℕ} → Walked g s w es t → length es ≡ length w
walked_length here = refl
walked_length (edge e p) = ap suc (walked_length p)

pub candidate_long : {g : Graph} {l : List ℕ} {s t : ℕ} {es : List ℕ} → 1 ≤ length l → Candidate g l s t es → 1 ≤ length es
candidate_long {l = l} h c = omega (arith, walked_length c.walk, length_times (suc c.more) l)

module _ (g : Graph) (l : List ℕ) (s t : ℕ) (small : g.vertices ≤ most_vertices) (full : 1 ≤ length l) (hs : s < g.vertices) (ht : t < g.vertices) where
  long : {fs : List ℕ} → Candidate g l s t fs → 1 ≤ length (reverse fs)
  long {fs} c = omega (arith, length-reverse fs, candidate_long full c)

  -- a first walk to (t, 0) that is queued is the route
  pub met_route : {nodes : List Node} → FirstWalks g l s nodes → (m : Queued nodes (state t 0)) → Route g l s t (reverse m.node.back)
  met_route {nodes} h m = record {
    runs = back_candidate g l s small full hs ht m.long (subst (λ (z : ℕ). WalkBack g l s z m.node.back) m.is (h.walks m.node m.among));
    fewest = λ fs c. omega (arith, le_length (least fs c), length-reverse fs, length-reverse m.node.back);
    first = λ fs c e.
        let k : length m.node.back ≡ length (reverse fs) = omega (arith, length-reverse fs, length-reverse m.node.back) in
        rw (reverse-reverse fs) at (le_sub (least fs c) k);
  }
    where
      least : (fs : List ℕ) → Candidate g l s t fs → m.node.back ≼ (reverse fs)
      least fs c = h.least m.node m.among m.long (reverse fs) (subst (λ (z : ℕ). WalkBack g l s z (reverse fs)) (sym m.is) (candidate_back g l s small full c)) (long c)

  -- ---- levels

  -- c is the first level from 1 on that has (t, 0)
  pub record FirstLevel (c : ℕ) : Type 0 where
    pub positive : 1 ≤ c
    pub has : state t 0 ∈ level g l s c
    pub none : (j : ℕ) → 1 ≤ j → j < c → ¬ (state t 0 ∈ level g l s j)

  met_by : {z : ℕ} {q : List ℕ} → WalkBack g l s z q → 1 ≤ length q → Met g l s (length q) z
  met_by start k = absurd (omega arith)
  met_by (on p h) k = back_met g l s small full p h

  -- a level that has (t, 0) is as long as some candidate
  level_candidate : (j : ℕ) → 1 ≤ j → state t 0 ∈ level g l s j → (fs : List ℕ) × Candidate g l s t fs × (length fs ≡ j)
  level_candidate j h m =
      let (p, tr, e) = level_back g l s j (state t 0) m in
      (reverse p, back_candidate g l s small full hs ht (omega arith) tr, length-reverse p ∙ e)

  pub route_level : {es : List ℕ} → Route g l s t es → FirstLevel (length es)
  route_level {es} r = record { positive = candidate_long full r.runs; has = go (eq-or-lt_of_le (omega (arith, met.last, length-reverse es))); none = early }
    where
      met : Met g l s (length (reverse es)) (state t 0)
      met = met_by (candidate_back g l s small full r.runs) (long r.runs)

      early : (j : ℕ) → 1 ≤ j → j < length es → ¬ (state t 0 ∈ level g l s j)
      early j h k m = let (fs, c, e) = level_candidate j h m in omega (arith, r.fewest fs c)

      go : (met.at ≡ length es) ⊎ (met.at < length es) → state t 0 ∈ level g l s (length es)
      go (inl e) = rw e at met.stands
      go (inr k) = absurd (early met.at met.first k met.stands)

  first_level_unique : {c d : ℕ} → FirstLevel c → FirstLevel d → c ≡ d
  first_level_unique {c} {d} p q = elim (dec_lt c d) [
    | yes h ↦ absurd (q.none c p.positive h p.has)
    | no h ↦ elim (dec_lt d c) [ yes k ↦ absurd (p.none d q.positive k q.has) | no k ↦ omega arith ]
  ]

  -- the route is as long as the first level that has (t, 0) is late
  pub level_route : {c : ℕ} {es : List ℕ} → FirstLevel c → Route g l s t es → length es ≡ c
  level_route p r = first_level_unique (route_level r) p

  -- and that is the number of levels of a yes
  pub reply_route : (limit : ℕ) {c : ℕ} {es : List ℕ} → level_reply g l s t limit ≡ Yes c → Route g l s t es → length es ≡ c
  reply_route limit {c} {es} e r = go (rw e at (told g l s t limit))
    where
      go : {c : ℕ} → Told g l s t limit (Yes c) → length es ≡ c
      go (found c h q m) = level_route (record { positive = omega arith; has = m; none = λ j a b. (q j a (omega arith)).0 }) r

  -- ---- a route has no more edges than there are states

  levels_long : (c z : ℕ) → z ∈ level g l s c → c + length (stage g l s c).fresh ≤ length l * most_vertices
  levels_long zero z m = omega (arith, fresh_size g l s)
  levels_long (suc c) z m =
      let (a, k, led) = ((level_iff g l s c z).0 m).source in
      omega (arith, levels_long c a k, level_size g l s c, member_long (level g l s (suc c)) m)

  pub route_short : {es : List ℕ} → Route g l s t es → length es ≤ length l * most_vertices
  route_short {es} r = omega (arith, levels_long (length es) (state t 0) (route_level r).has)
