-- Walks turned round: over edges turned round, from the end to the start, by the pattern from its end.
use mathlib.Core.Path.{◌≡◌, refl, sym, ap, subst, ◌∙◌}
use mathlib.Core.Logic.{◌⊎◌, inl, inr, ⊎_elim, ⊎_map, ◌↔◌}
use mathlib.Core.Bool.{true}
use mathlib.Core.List.Memᴰ
use mathlib.Core.List.{List, [], ◌∷◌, map, reverse, reverse_aux, reverse-cons, reverse-reverse}
use Prim.Native.Nat.{ℕ, ◌≤◌, ◌<◌}
use native.Mathlib.Omega.{arith}
use lib.Dec.{T}
use lib.ListN.{length, length-reverse}
use Rattle.model.specs.Limits.{most_vertices, most_label}
use Rattle.model.specs.Lists.{◌∈◌}
use Rattle.model.specs.Edges.{edge_number, from_of, label_of, to_of}
use Rattle.model.specs.Turned.{turned, TurnedRound, Labelled}
use Rattle.model.specs.Walks.{Edge, Spells, here, edge, Runs, once, more}
use Rattle.model.specs.Computed.Edges.{bare, edge?}
use Rattle.model.specs.Computed.Levels.{runs?}
use Rattle.model.proofs.Tests.{test_map, test_agree}
use Rattle.model.proofs.Edges.{edge_fields, IsEdge, test_edge, edge_named}
use Rattle.model.proofs.Walks.{join, runs_trans}
use Rattle.model.proofs.Search.{test_runs}

-- ---- edges

pub turned_number : (a c b : ℕ) → c ≤ most_label → b < most_vertices → turned (edge_number a c b) ≡ edge_number b c a
turned_number a c b hc hb = let (i, j, k) = edge_fields a c b (omega arith) hb in rw (i, j, k) refl

-- turned twice, an edge is as it was
pub turned_turned : (x : ℕ) → from_of x < most_vertices → turned (turned x) ≡ x
turned_turned x h =
    let whole : edge_number (from_of x) (label_of x) (to_of x) ≡ x = omega arith in
    let (i, j, k) = edge_fields (to_of x) (label_of x) (from_of x) (omega arith) h in
    rw (i, j, k) whole

module _ (vertices : ℕ) (small : vertices ≤ most_vertices) (x : ℕ) (e : edge? vertices x ≡ true) where
  is_edge : IsEdge vertices x
  is_edge = (test_edge vertices x).yields (subst T (sym e) tt)

  pub edge_from : from_of x < most_vertices
  edge_from = omega (arith, is_edge.from)

  pub turned_edge : edge? vertices (turned x) ≡ true
  turned_edge =
      let h = is_edge in
      edge_named vertices (to_of x) (label_of x) (from_of x) small h.to h.from h.label_low h.label_high

-- numbers that are the edges turned round, in any order
module _ {vertices : ℕ} {edges back : List ℕ} (small : vertices ≤ most_vertices) (valid : (x : ℕ) → x ∈ edges → edge? vertices x ≡ true)
    (same : (x : ℕ) → (x ∈ back) ↔ (x ∈ map turned edges)) where
  pub back_edge : (x : ℕ) → x ∈ back → edge? vertices x ≡ true
  back_edge x m = let (y, k, e) = Memᴰ.of_map turned edges ((same x).0 m) in rw e at (turned_edge vertices small y (valid y k))

  pub turned_round : TurnedRound edges back
  turned_round = record { there = λ x m. (same (turned x)).1 (Memᴰ.map turned m); home = home }
    where
      home : (x : ℕ) → x ∈ back → turned x ∈ edges
      home x m =
          let (y, k, e) = Memᴰ.of_map turned edges ((same x).0 m) in
          let twice : turned x ≡ y = ap turned (sym e) ∙ turned_turned y (edge_from vertices small y (valid y k)) in
          rw twice k

-- ---- walks

reverse_out : {c : ℕ} (l m : List ℕ) → c ∈ reverse_aux l m → (c ∈ l) ⊎ (c ∈ m)
reverse_out [] m h = inr h
reverse_out (x ∷ l) m h = ⊎_elim
    (λ k. inl (Memᴰ.tail k))
    (λ k. ⊎_map (λ e. Memᴰ.head e) (λ j. j) (Memᴰ.cases_cons k))
    (reverse_out l (x ∷ m) h)

labelled_tail : {c : ℕ} {l : List ℕ} → Labelled (c ∷ l) → Labelled l
labelled_tail h = record { labels = λ d m. h.labels d (Memᴰ.tail m) }

labelled_reverse : {l : List ℕ} → Labelled l → Labelled (reverse l)
labelled_reverse {l} h = record { labels = λ c m. h.labels c (⊎_elim (λ k. k) (λ k. absurd (Memᴰ.not-nil k)) (reverse_out l [] m)) }

module _ {vertices : ℕ} (small : vertices ≤ most_vertices) where
  module _ {edges back : List ℕ} (r : TurnedRound edges back) where
    edge_back : {a c b : ℕ} → c ≤ most_label → Edge (bare vertices edges) a c b → Edge (bare vertices back) b c a
    edge_back {a} {c} {b} h e = record {
      from = e.to;
      to = e.from;
      stands = rw (turned_number a c b h (omega (arith, e.to))) at (r.there (edge_number a c b) e.stands);
    }

    spells_back : {s t : ℕ} {l : List ℕ} → Labelled l → Spells (bare vertices edges) s l t → Spells (bare vertices back) t (reverse l) s
    spells_back h here = here
    spells_back h (edge {c = c} {w = w} e p) =
        rw (reverse-cons c w) (join (spells_back (labelled_tail h) p) (edge (edge_back (h.labels c (Memᴰ.head refl)) e) here))

    runs_back : {l : List ℕ} {s t : ℕ} → Labelled l → Runs (bare vertices edges) l s t → Runs (bare vertices back) (reverse l) t s
    runs_back h (once p) = once (spells_back h p)
    runs_back h (more p q) = runs_trans (runs_back h q) (once (spells_back h p))

  -- a walk from s to t runs l if, over the edges turned round, one from t to s runs l from its end
  module _ {edges back : List ℕ} (r : TurnedRound edges back) (l : List ℕ) (full : 1 ≤ length l) (h : Labelled l) where
    pub runs_turned : (s t : ℕ) → s < vertices → t < vertices → runs? (bare vertices edges) l s t ≡ runs? (bare vertices back) (reverse l) t s
    runs_turned s t hs ht = test_agree
        (test_runs (bare vertices edges) l small full s t hs ht)
        (test_map home (runs_back r h) (test_runs (bare vertices back) (reverse l) small (omega (arith, length-reverse l)) t s ht hs))
      where
        home : Runs (bare vertices back) (reverse l) t s → Runs (bare vertices edges) l s t
        home w = rw (reverse-reverse l) at (runs_back (record { there = r.home; home = r.there }) (labelled_reverse h) w)
