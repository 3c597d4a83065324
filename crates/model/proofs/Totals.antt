-- Laws of totals: how many edges have a label, and that a walk has one of each label that it runs.
use mathlib.Core.Path.{◌≡◌, refl, sym, ap, ◌∙◌}
use mathlib.Core.Logic.{⊎_elim, ◌↔◌}
use mathlib.Core.List.Memᴰ
use mathlib.Core.List.{List, [], ◌∷◌, map}
use Prim.Native.Nat.{ℕ, ◌+◌, ◌-◌, ◌≤◌}
use native.Mathlib.Omega.{arith}
use lib.Dec.{eqb}
use lib.ListN.{length, get_or}
use Rattle.model.specs.Limits.{most_vertices, most_label}
use Rattle.model.specs.Lists.{◌∈◌, keep, from}
use Rattle.model.specs.Edges.{Graph, label_of, total_of, totals_of}
use Rattle.model.specs.Walks.{Spells, here, edge, Runs, once, more}
use Rattle.model.proofs.Tests.{test_eq}
use Rattle.model.proofs.Lists.{keep_in, from_out, length_keep, member_long, length_from_lem, map_as, at_from, get_d_map}
use Rattle.model.proofs.Ranks.{one, keep_more, keep_none}
use Rattle.model.proofs.Edges.{edge_fields}

-- ---- the totals, by their places

-- label c's total stands at place c - 1
pub total_at : (edges : List ℕ) (c : ℕ) → 1 ≤ c → c ≤ most_label → get_or (totals_of edges) (c - 1) 0 ≡ total_of edges c
unfolding totals_of
total_at edges c low high =
    let place : get_or (from 1 most_label) (c - 1) 0 ≡ c = omega (arith, at_from 1 most_label (c - 1) (omega arith)) in
    get_d_map (total_of edges) (from 1 most_label) (c - 1) (omega (arith, length_from_lem 1 most_label)) ∙ ap (total_of edges) place

-- numbers that are the total of each label are the totals
pub totals_as : {f : ℕ → ℕ} (edges : List ℕ) → ((c : ℕ) → 1 ≤ c → c ≤ most_label → f c ≡ total_of edges c) → map f (from 1 most_label) ≡ totals_of edges
unfolding totals_of
totals_as edges h = map_as (from 1 most_label) (λ c m. let (low, high) = from_out 1 most_label c m in h c low (omega arith))

-- ---- the total of one label

-- without edges the total is zero
pub total_none : (c : ℕ) → total_of [] c ≡ 0
unfolding total_of keep
total_none c = refl

-- an edge more counts if it has the label
pub total_more : (x : ℕ) (edges : List ℕ) (c : ℕ) → total_of (x ∷ edges) c ≡ one (eqb (label_of x) c) + total_of edges c
unfolding total_of
total_more x edges c = keep_more (λ z. eqb (label_of z) c) x edges

-- a total is at most the number of edges
pub total_most : (edges : List ℕ) (c : ℕ) → total_of edges c ≤ length edges
unfolding total_of
total_most edges c = omega (arith, length_keep (λ x. eqb (label_of x) c) edges)

-- an edge with the label makes one at least
pub total_in : {edges : List ℕ} {x : ℕ} (c : ℕ) → x ∈ edges → label_of x ≡ c → 1 ≤ total_of edges c
unfolding total_of
total_in {edges} {x} c m e = member_long (keep (λ z. eqb (label_of z) c) edges) (keep_in _ m ((test_eq (label_of x) c).passes e))

-- the total is zero if no edge has the label, and only then
pub total_zero : (edges : List ℕ) (c : ℕ) → (total_of edges c ≡ 0) ↔ ((x : ℕ) → x ∈ edges → ¬ (label_of x ≡ c))
unfolding total_of
total_zero edges c = (λ e x m q. omega (arith, total_in c m q), λ h. keep_none _ edges (λ x m t. h x m ((test_eq (label_of x) c).yields t)))

-- ---- walks

module _ (g : Graph) (few : g.vertices ≤ most_vertices) where
  -- a walk has an edge of each label that it spells
  spells_total : {w : List ℕ} {s t : ℕ} → Spells g s w t → (c : ℕ) → c ∈ w → c ≤ most_label → 1 ≤ total_of g.edges c
  spells_total here c m high = absurd (Memᴰ.not-nil m)
  spells_total (edge {a = a} {c = d} {b = b} e p) c m high =
      ⊎_elim
      (λ q. total_in c e.stands ((edge_fields a d b (omega arith) (omega (arith, e.to))).1 ∙ sym q))
      (λ k. spells_total p c k high)
      (Memᴰ.cases_cons m)

  -- a walk that runs a pattern has an edge of each of its labels
  pub runs_total : {l : List ℕ} {s t : ℕ} → Runs g l s t → (c : ℕ) → c ∈ l → c ≤ most_label → 1 ≤ total_of g.edges c
  runs_total (once p) = spells_total p
  runs_total (more p r) = spells_total p
