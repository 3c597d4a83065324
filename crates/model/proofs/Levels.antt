-- Laws of the levels: what stands in each, and what that says of walks.
use mathlib.Core.Path.{◌≡◌, refl, sym, ◌∙◌}
use mathlib.Core.Logic.{◌⊎◌, inl, inr, ⊎_elim, ◌↔◌}
use mathlib.Core.Bool.{Bool, not}
use mathlib.Core.List.Memᴰ
use mathlib.Core.List.{List, ◌∷◌, cons≢nil, head-eq_of_cons-eq, tail-eq_of_cons-eq}
use Prim.Native.Nat.{ℕ, zero, suc, ◌+◌, ◌*◌, ◌%◌, ◌≤◌, ◌<◌}
use native.Mathlib.Nat.{eq-or-lt_of_le, le_of_suc-le-suc, mod-eq_of_lt, mod_self, mod-lt}
use native.Mathlib.Omega.{arith}
use lib.Dec.{ltb}
use lib.ListN.{length, get_or, take, drop}
use lib.Seq.{take-suc, drop-cons, take-length, drop-length}
use Rattle.model.specs.Limits.{most_vertices}
use Rattle.model.specs.Lists.{◌∈◌, up_to}
use Rattle.model.specs.Edges.{Graph, edge_number}
use Rattle.model.specs.Walks.{Spells, here, edge, Runs, once, more}
use Rattle.model.specs.States.{state, vertex_of, used_of, Leads, IsState}
use Rattle.model.specs.Computed.Levels.{states, leads?, led?, grow, stage, level}
use Rattle.model.specs.Levels.{Fresh, Reached}
use Rattle.model.proofs.Tests.{Tests, test_and, test_not, test_eq, test_lt, test_mem, test_any, test_T, test_dec}
use Rattle.model.proofs.Lists.{keep_in, keep_out, up_to_lem, below, length_keep, length_from_lem}
use Rattle.model.proofs.Walks.{join, still, runs_trans}

-- the fields of a state
module _ (v i : ℕ) (h : v < most_vertices) where
  pub vertex_state : vertex_of (state v i) ≡ v
  vertex_state = omega arith

  pub used_state : used_of (state v i) ≡ i
  used_state = omega arith

-- (s, 0) is s itself
pub state_zero : (v : ℕ) → state v 0 ≡ v
state_zero v = omega arith

pub state_is : (g : Graph) (l : List ℕ) (v i : ℕ) → g.vertices ≤ most_vertices → v < g.vertices → i < length l → IsState g l (state v i)
state_is g l v i small h k = record { bound = omega arith; vertex = rw (vertex_state v i (omega arith)) h }

module _ (g : Graph) (l : List ℕ) where
  pub states_iff : (x : ℕ) → (x ∈ states g l) ↔ IsState g l x
  unfolding states
  states_iff x = (
    λ m. let (a, t) = keep_out (λ x. ltb (vertex_of x) g.vertices) (up_to (length l * most_vertices)) m in
        record { bound = below a; vertex = (test_lt (vertex_of x) g.vertices).yields t },
    λ h. keep_in (λ x. ltb (vertex_of x) g.vertices) (up_to_lem h.bound) ((test_lt (vertex_of x) g.vertices).passes h.vertex),
  )

  pub test_leads : (x z : ℕ) → Tests (leads? g l x z) (Leads g.edges l x z)
  unfolding leads?
  test_leads x z =
      let t = test_and (test_eq (used_of z) (suc (used_of x) % length l)) (test_mem (edge_number (vertex_of x) (get_or l (used_of x) 0) (vertex_of z)) g.edges) in
      record {
        yields = λ h. let (a, b) = t.yields h in record { next = a; stands = b };
        passes = λ h. t.passes (h.next, h.stands);
      }

  pub test_led : (last : List ℕ) (z : ℕ) → Tests (led? g l last z) ((x : ℕ) × (x ∈ last) × Leads g.edges l x z)
  unfolding led?
  test_led last z = test_any (λ x. test_leads x z) last

  module _ (s : ℕ) where
    fresh_iff : (i z : ℕ) → (z ∈ (stage g l s i).fresh) ↔ (IsState g l z × Fresh g l s i z)
    unfolding stage grow
    fresh_iff zero z = (λ m. ((states_iff z).0 m, λ j h k. absurd (omega arith)), λ h. (states_iff z).1 h.0)
    fresh_iff (suc i) z = (
      λ m.
          let (a, t) = keep_out out rest m in
          let (b, f) = (fresh_iff i z).0 a in
          (b, λ j h k. ⊎_elim (λ e. rw e (λ q. (test_not (test_T (met z))).yields t (keep_out met rest q).1)) (λ q. f j h (le_of_suc-le-suc q)) (eq-or-lt_of_le k)),
      λ h.
          let a = (fresh_iff i z).1 (h.0, λ j p q. h.1 j p (omega arith)) in
          keep_in out a ((test_not (test_T (met z))).passes (λ t. h.1 (suc i) (omega arith) (omega arith) (keep_in met a t))),
    )
      where
        rest : List ℕ
        rest = (stage g l s i).fresh

        met : ℕ → Bool
        met z = led? g l (level g l s i) z

        out : ℕ → Bool
        out z = not (met z)

    -- "level 0 is the pair (s, 0)"
    pub level_zero : (z : ℕ) → (z ∈ level g l s 0) ↔ (z ≡ s)
    unfolding stage
    level_zero z = (λ m. Memᴰ.eq_of_singleton m ∙ state_zero s, λ e. Memᴰ.head (e ∙ sym (state_zero s)))

    -- what level i + 1 has
    pub level_iff : (i z : ℕ) → (z ∈ level g l s (suc i)) ↔ Reached g l s i z
    unfolding stage grow
    level_iff i z = (
      λ m.
          let (a, t) = keep_out (led? g l (level g l s i)) (stage g l s i).fresh m in
          let (b, f) = (fresh_iff i z).0 a in
          record { is_state = b; fresh = f; source = (test_led (level g l s i) z).yields t },
      λ h. keep_in (led? g l (level g l s i)) ((fresh_iff i z).1 (h.is_state, h.fresh)) ((test_led (level g l s i) z).passes h.source),
    )

    -- a level takes its states out of those that are fresh
    pub level_size : (i : ℕ) → length (level g l s (suc i)) + length (stage g l s (suc i)).fresh ≡ length (stage g l s i).fresh
    unfolding stage grow
    level_size i = length_keep (led? g l (level g l s i)) (stage g l s i).fresh

    pub fresh_size : length (stage g l s 0).fresh ≤ length l * most_vertices
    unfolding stage states
    fresh_size = omega (
      arith,
      length_keep (λ x. ltb (vertex_of x) g.vertices) (up_to (length l * most_vertices)),
      length_from_lem 0 (length l * most_vertices),
    )

    -- z stands in one of levels 1 to i
    pub record Met (i z : ℕ) : Type 0 where
      pub at : ℕ
      pub first : 1 ≤ at
      pub last : at ≤ i
      pub stands : z ∈ level g l s at

    -- it does or it does not
    pub look : (i z : ℕ) → Fresh g l s i z ⊎ Met i z
    look zero z = inl (λ j h k. absurd (omega arith))
    look (suc i) z = ⊎_elim (λ f. now f (test_dec (test_mem z (level g l s (suc i)))))
        (λ m. inr (record { at = m.at; first = m.first; last = omega (arith, m.last); stands = m.stands })) (look i z)
      where
        now : Fresh g l s i z → Dec (z ∈ level g l s (suc i)) → Fresh g l s (suc i) z ⊎ Met (suc i) z
        now f (yes m) = inr (record { at = suc i; first = omega arith; last = omega arith; stands = m })
        now f (no n) = inl (λ j h k. ⊎_elim (λ e. rw e n) (λ q. f j h (le_of_suc-le-suc q)) (eq-or-lt_of_le k))

    -- ---- what a level has is reached by a walk: whole runs of l, then the labels used

    record Arrived (x : ℕ) : Type 0 where
      stop : ℕ
      whole : (stop ≡ s) ⊎ Runs g l s stop
      part : Spells g stop (take (used_of x) l) (vertex_of x)
      vertex : vertex_of x < g.vertices
      inside : used_of x < length l

    module _ (small : g.vertices ≤ most_vertices) (full : 1 ≤ length l) (hs : s < g.vertices) where
      arrive : (x z : ℕ) → IsState g l z → Arrived x → Leads g.edges l x z → Arrived z × (used_of z ≡ 0 → Runs g l s (vertex_of z))
      arrive x z hz a led = go (eq-or-lt_of_le a.inside) led.next
        where
          on : Spells g a.stop (take (suc (used_of x)) l) (vertex_of z)
          on = rw (take-suc l (used_of x) 0 a.inside) (join a.part (edge (record { from = a.vertex; to = hz.vertex; stands = led.stands }) here))

          run : Spells g a.stop l (vertex_of z) → (a.stop ≡ s) ⊎ Runs g l s a.stop → Runs g l s (vertex_of z)
          run p (inl e) = once (rw e at p)
          run p (inr r) = runs_trans r (once p)

          go : (suc (used_of x) ≡ length l) ⊎ (suc (used_of x) < length l) → used_of z ≡ suc (used_of x) % length l → Arrived z × (used_of z ≡ 0 → Runs g l s (vertex_of z))
          go (inl e) u =
              let none : used_of z ≡ 0 = rw (e, mod_self) at u in
              let r = run (rw (e, take-length) at on) a.whole in
              (record { stop = vertex_of z; whole = inr r; part = rw none here; vertex = hz.vertex; inside = omega arith }, λ _. r)
          go (inr h) u =
              let same : used_of z ≡ suc (used_of x) = u ∙ mod-eq_of_lt h in
              (record { stop = a.stop; whole = a.whole; part = rw same on; vertex = hz.vertex; inside = omega arith }, λ k. absurd (omega arith))

      arrived : (i x : ℕ) → x ∈ level g l s i → Arrived x
      arrived zero x m =
          let e : x ≡ s = (level_zero x).0 m in
          let v : vertex_of x ≡ s = omega arith in
          let u : used_of x ≡ 0 = omega arith in
          record { stop = s; whole = inl refl; part = rw (u, v) here; vertex = rw v hs; inside = omega arith }
      arrived (suc i) z m =
          let r = (level_iff i z).0 m in
          let (x, k, led) = r.source in
          (arrive x z r.is_state (arrived i x k) led).0

      -- if a level from 1 on has (t, 0), a walk from s to t runs l
      pub level_runs : (i t : ℕ) → t < g.vertices → t ∈ level g l s (suc i) → Runs g l s t
      level_runs i t ht m =
          let r = (level_iff i t).0 m in
          let (x, k, led) = r.source in
          let v : vertex_of t ≡ t = omega arith in
          let u : used_of t ≡ 0 = omega arith in
          rw v at ((arrive x t r.is_state (arrived i x k) led).1 u)

  -- ---- if a level is empty, the levels before it had all that edges of the next labels lead to

  -- what holds of each such state holds where a walk ends
  module _ (small : g.vertices ≤ most_vertices) (full : 1 ≤ length l) (P : ℕ → Type 0) (step : (x z : ℕ) → P x → IsState g l z → Leads g.edges l x z → P z) where
    abbrev Next : ℕ → Type 0
    Next x = (z : ℕ) → IsState g l z → Leads g.edges l x z → P z

    spelt : {a m : ℕ} {w : List ℕ} (i : ℕ) → i < length l → drop i l ≡ w → Next (state a i) → Spells g a w m → P (state m 0)
    spelt i h e f here = absurd (cons≢nil (sym (drop-cons l i 0 h) ∙ e))
    spelt {a} {m} i h e f (edge {c = c} {b = b} {w = w} d p) = go (λ k n. spelt (suc i) k rest n p) (eq-or-lt_of_le h)
      where
        both : get_or l i 0 ∷ drop (suc i) l ≡ c ∷ w
        both = sym (drop-cons l i 0 h) ∙ e

        rest : drop (suc i) l ≡ w
        rest = tail-eq_of_cons-eq both

        j : ℕ
        j = suc i % length l

        ha : a < most_vertices
        ha = omega (arith, d.from)

        hb : b < most_vertices
        hb = omega (arith, d.to)

        there : P (state b j)
        there = f (state b j) (state_is g l b j small d.to (mod-lt (suc i) full)) (record {
          next = rw (used_state b j hb, used_state a i ha);
          stands = rw (vertex_state a i ha, used_state a i ha, vertex_state b j hb, head-eq_of_cons-eq both) d.stands;
        })

        go : (suc i < length l → Next (state b (suc i)) → P (state m 0)) → (suc i ≡ length l) ⊎ (suc i < length l) → P (state m 0)
        go f (inl k) =
            let none : suc i % length l ≡ 0 = rw (k, mod_self) in
            let at : b ≡ m = still (sym rest ∙ rw (k, drop-length)) p in
            rw (none, at) at there
        go f (inr k) = f k (λ x q t. step (state b (suc i)) x (rw (mod-eq_of_lt k) at there) q t)

    run_through : {s t : ℕ} → Next (state s 0) → Runs g l s t → P (state t 0)
    run_through f (once p) = spelt 0 full refl f p
    run_through f (more {m = m} p r) = run_through (λ z q t. step (state m 0) z (spelt 0 full refl f p) q t) r

  pub level_all : g.vertices ≤ most_vertices → 1 ≤ length l → (s c t : ℕ) → ((z : ℕ) → ¬ (z ∈ level g l s (suc c))) → Runs g l s t → Met s c t
  level_all small full s c t empty r = rw (state_zero t) at
      (run_through small full (Met s c) (λ x z m q led. on m.at m.last m.stands q led) (λ z q led. on 0 (omega arith) ((level_zero s (state s 0)).1 (state_zero s)) q led) r)
    where
      on : (j : ℕ) → j ≤ c → {x z : ℕ} → x ∈ level g l s j → IsState g l z → Leads g.edges l x z → Met s c z
      on j k {x} {z} m q led = ⊎_elim
          (λ f.
          let n : z ∈ level g l s (suc j) = (level_iff s j z).1 (record { is_state = q; fresh = f; source = (x, m, led) }) in
          ⊎_elim (λ e. absurd (empty z (rw e at n))) (λ b. record { at = suc j; first = omega arith; last = b; stands = n }) (eq-or-lt_of_le k))
          (λ d. record { at = d.at; first = d.first; last = omega (arith, d.last); stands = d.stands }) (look s j z)
