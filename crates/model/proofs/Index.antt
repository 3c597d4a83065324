-- The determined entries, for any order of the vertices: the query on them is right, and none can be spared.
use mathlib.Core.Path.{◌≡◌, refl, ◌∙◌}
use mathlib.Core.Logic.Dec
use mathlib.Core.Logic.{◌⊎◌, inl, inr, ⊎_elim, ◌≢◌}
use mathlib.Core.List.{List}
use Prim.Native.Nat.{ℕ, zero, suc, ◌≤◌, ◌<◌}
use native.Mathlib.Omega.{arith}
use native.Mathlib.Nat.{le_refl, le_of_suc-le-suc, not-suc-le-zero, eq-or-lt_of_le}
use native.Mathlib.Decide.{ℕ_discrete, dec_le, map_dec}
use Rattle.model.specs.Lists.{◌∈◌}
use Rattle.model.specs.Edges.{Graph}
use Rattle.model.specs.Patterns.{code}
use Rattle.model.specs.Walks.{Runs, Stop}
use Rattle.model.specs.Order.{rank, Names}
use Rattle.model.specs.Entries.{Earliest, entry_of, out_entry, in_entry, Asked, IsEntry, out, into}
use Rattle.model.specs.Query.{Answers, target, source, shared}
use Rattle.model.specs.Computed.Edges.{Small}
use Rattle.model.specs.Build.Hubs.{Between}
use Rattle.model.proofs.Patterns.{code_below}
use Rattle.model.proofs.Walks.{stop_iff, stop_start, stop_end, stop_left, stop_right, runs_trans, runs_to, stop_to}
use Rattle.model.proofs.Order.{rank_same}
use Rattle.model.proofs.Codes.{code_inj}

pub number_same : {g : Graph} {l m : List ℕ} {a b c d : ℕ} (i j : ℕ) → Small g → Asked g l a b → Asked g m c d
    → entry_of i a b (code l) ≡ entry_of j c d (code m) → (i ≡ j) × (a ≡ c) × (b ≡ d) × (l ≡ m)
number_same i j small p q e =
    let hl = code_below small.longest_small p.pattern.keyed in
    let hm = code_below small.longest_small q.pattern.keyed in
    (omega arith, omega arith, omega arith, code_inj p.pattern q.pattern (omega arith))

swap : {g : Graph} {l : List ℕ} {s t : ℕ} → Asked g l s t → Asked g l t s
swap p = record { from = p.to; to = p.from; pattern = p.pattern }

to_hub : {g : Graph} {l : List ℕ} {s t h : ℕ} → Asked g l s t → h < g.vertices → Asked g l s h
to_hub q b = record { from = q.from; to = b; pattern = q.pattern }

from_hub : {g : Graph} {l : List ℕ} {s t h : ℕ} → Asked g l s t → h < g.vertices → Asked g l h t
from_hub q b = record { from = b; to = q.to; pattern = q.pattern }

-- an entry of an out list, or of an in list, says what it should
module _ {g : Graph} {order : List ℕ} (small : Small g) {s t : ℕ} {l : List ℕ} (q : Asked g l s t) where
  out_entry_lem : IsEntry g order (out_entry s t l) → Earliest g order l s t t
  out_entry_lem (out s' t' l' q' u e) = let (_, a, b, c) = number_same 0 0 small q q' e in rw (a, b, c) u
  out_entry_lem (into s' t' l' q' u ne e) = absurd (omega (arith, number_same 0 1 small q (swap q') e))

  in_entry_lem : IsEntry g order (in_entry t s l) → Earliest g order l s t s × (s ≢ t)
  in_entry_lem (out s' t' l' q' u e) = absurd (omega (arith, number_same 1 0 small (swap q) q' e))
  in_entry_lem (into s' t' l' q' u ne e) = let (_, b, a, c) = number_same 1 1 small (swap q) (swap q') e in rw (a, b, c) (u, ne)

module _ {g : Graph} {order : List ℕ} (small : Small g) {es : List ℕ} (only : (e : ℕ) → e ∈ es → IsEntry g order e) where
  -- SOUND: a list of determined entries says yes only if a walk runs
  pub sound : {s t : ℕ} {l : List ℕ} → Asked g l s t → Answers g.vertices es l s t → Runs g l s t
  sound q (target h) = (out_entry_lem small q (only _ h)).stop.walk
  sound q (source h) = (in_entry_lem small q (only _ h)).0.stop.walk
  sound q (shared u b h k) = runs_trans (out_entry_lem small (to_hub q b) (only _ h)).stop.walk (in_entry_lem small (from_hub q b) (only _ k)).0.stop.walk

  -- NECESSARY: if one determined entry is missing, a question that is rightly a yes is answered no
  pub necessary : Names g.vertices order → {e : ℕ} → IsEntry g order e → ¬ (e ∈ es)
      → (l : List ℕ) × (s : ℕ) × (t : ℕ) × Asked g l s t × Runs g l s t × (¬ Answers g.vertices es l s t)
  necessary names (out s t l q u e) gone = (l, s, t, q, u.stop.walk, λ h. never h)
    where
      never : Answers g.vertices es l s t → ⊥
      never (target h) = gone (rw e h)
      never (source h) =
          let (i, ne) = in_entry_lem small q (only _ h) in
          ne (rank_same names q.from q.to (omega (arith, i.least t u.stop, u.least s i.stop)))
      never (shared v b h k) =
          let o = out_entry_lem small (to_hub q b) (only _ h) in
          let (i, ne) = in_entry_lem small (from_hub q b) (only _ k) in
          ne (rank_same names b q.to (omega (arith, i.least t (stop_end i.stop.walk), u.least v (stop_left o.stop i.stop.walk))))
  necessary names (into s t l q u ne e) gone = (l, s, t, q, u.stop.walk, λ h. never h)
    where
      never : Answers g.vertices es l s t → ⊥
      never (target h) =
          let o = out_entry_lem small q (only _ h) in
          ne (rank_same names q.from q.to (omega (arith, o.least s u.stop, u.least t o.stop)))
      never (source h) = gone (rw e h)
      never (shared v b h k) =
          let o = out_entry_lem small (to_hub q b) (only _ h) in
          let (i, _) = in_entry_lem small (from_hub q b) (only _ k) in
          let same : v ≡ s = rank_same names b q.from (omega (arith, o.least s (stop_start o.stop.walk), u.least v (stop_left o.stop i.stop.walk))) in
          gone (rw (e, ← same) k)

-- of the numbers that have a property, one with the least rank
least_below : (P : ℕ → Type 0) (r : ℕ → ℕ) (n : ℕ) → ((v : ℕ) → v < n → Dec (P v)) → (u : ℕ) → P u
    → (m : ℕ) → m ≤ n → (w : ℕ) × P w × ((v : ℕ) → v < m → P v → r w ≤ r v)
least_below P r n dec u p zero h = (u, p, λ v k. absurd (not-suc-le-zero k))
least_below P r n dec u p (suc m) h = step (least_below P r n dec u p m (omega arith)) (dec m h)
  where
    Best : ℕ → Type 0
    Best k = (w : ℕ) × P w × ((v : ℕ) → v < k → P v → r w ≤ r v)

    -- what holds of m and of all below it
    cover : {w : ℕ} → ((v : ℕ) → v < m → P v → r w ≤ r v) → (P m → r w ≤ r m) → (v : ℕ) → v < suc m → P v → r w ≤ r v
    cover {w} f d v k q = ⊎_elim (λ e. rw e (d (rw e at q))) (λ b. f v b q) (eq-or-lt_of_le (le_of_suc-le-suc k))

    step : Best m → Dec (P m) → Best (suc m)
    step (w, q, f) (no n) = (w, q, cover f (λ k. absurd (n k)))
    step (w, q, f) (yes k) = elim (dec_le (r w) (r m)) [
      | yes a ↦ (w, q, cover f (λ _. a))
      | no a ↦ (m, k, cover (λ v b z. omega (arith, f v b z)) (λ _. le_refl (r m)))
    ]

dec_or : {P Q : Type 0} → Dec P → Dec Q → Dec (P ⊎ Q)
dec_or (yes p) d = yes (inl p)
dec_or (no p) (yes q) = yes (inr q)
dec_or (no p) (no q) = no (⊎_elim p q)

-- if walks are decided, one of their stops is the earliest
pub earliest : {g : Graph} (order : List ℕ) {l : List ℕ} {s t : ℕ} → ((a b : ℕ) → a < g.vertices → b < g.vertices → Dec (Runs g l a b))
    → s < g.vertices → Runs g l s t → (u : ℕ) × Earliest g order l s t u
earliest {g} order {l} {s} {t} dec h r =
    let (u, p, f) = least_below (λ v. Stop g l s t v) (rank order) g.vertices (λ v b. decide v b) s (stop_start r) g.vertices (le_refl _) in
    (u, record { stop = p; least = λ v k. f v (stop_to k h) k })
  where
    decide : (v : ℕ) → v < g.vertices → Dec (Stop g l s t v)
    decide v b = map_dec (λ k. stop_iff.1 (r, k)) (λ k. (stop_iff.0 k).1)
        (dec_or (ℕ_discrete v s) (dec_or (ℕ_discrete v t) (Dec.and (dec s v h b) (dec v t b (runs_to r h)))))

-- COMPLETE: a list that has the determined entries says yes wherever a walk runs
module _ {g : Graph} {order : List ℕ} {es : List ℕ} (all : (e : ℕ) → IsEntry g order e → e ∈ es) where
  pub complete : {s t u : ℕ} {l : List ℕ} → Asked g l s t → Earliest g order l s t u → Answers g.vertices es l s t
  complete {s} {t} {u} {l} q h = go (ℕ_discrete u t) (stop_iff.0 h.stop).1
    where
      go : Dec (u ≡ t) → Between g l s t u → Answers g.vertices es l s t
      go (yes e) b = target (all _ (out s t l q (rw e at h) refl))
      go (no n) (inr (inl e)) = absurd (n e)
      go (no n) (inl e) = source (all _ (into s t l q (rw e at h) (λ k. n (e ∙ k)) refl))
      go (no n) (inr (inr (v, w))) =
          shared u (runs_to v q.from) (all _ (out s u l (to_hub q (runs_to v q.from)) (record { stop = stop_end v; least = λ x k. h.least x (stop_left k w) }) refl))
          (all _ (into u t l (from_hub q (runs_to v q.from)) (record { stop = stop_start w; least = λ x k. h.least x (stop_right v k) }) n refl))
