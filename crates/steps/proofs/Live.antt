-- The edges of a label, and those of them that end in a row.
use mathlib.Core.Path.{◌≡◌, subst}
use mathlib.Core.Logic.{◌↔◌}
use mathlib.Core.List.Memᴰ
use mathlib.Core.List.{List}
use Prim.Native.Nat.{ℕ, suc, ◌+◌, ◌-◌, ◌≤◌, ◌<◌}
use native.Mathlib.Omega.{arith}
use lib.ListN.{length, get_or, take, drop, take-append-drop, length-drop}
use lib.Seq.{length-take-le}
use Rattle.model.specs.Limits.{most_vertices, most_label}
use Rattle.model.specs.Lists.{◌∈◌}
use Rattle.model.specs.Edges.{edge_number, from_of, to_of}
use Rattle.model.proofs.Edges.{edge_fields}
use Rattle.edges.specs.Grouped.{section, Grouped}
use Rattle.rows.specs.Rows.{On}
use Rattle.steps.specs.Filling.{Outgoing, Starting, LeadsTo, LeadsInto, Gathers}

part_in : (n m : ℕ) (l : List ℕ) {x : ℕ} → x ∈ take n (drop m l) → x ∈ l
part_in n m l k =
    let behind = rw (take-append-drop n (drop m l)) at (Memᴰ.append_left (drop n (drop m l)) k) in
    rw (take-append-drop m l) at (Memᴰ.append_right (take m l) behind)

-- an edge with label c leads from a to a vertex whose row, of those from `base` on, has t
pub record Via (edges w : List ℕ) (base a c t : ℕ) : Type 0 where
  pub b : ℕ
  pub small : b < most_vertices
  pub stands : edge_number a c b ∈ edges
  pub on : On w (base + b) t

-- ---- the edges of label suc c

module _ {edges slots : List ℕ} (g : Grouped edges slots) (c : ℕ) (h : c < most_label) where
  pub section_in : {x : ℕ} → x ∈ section edges slots c → x ∈ edges
  section_in m = part_in (get_or slots (suc c) 0 - get_or slots c 0) (get_or slots c 0) edges m

  pub section_outgoing : Outgoing (section edges slots c)
  section_outgoing = record { small = λ x m. g.from_small x (section_in m) }

  pub section_fits : length (section edges slots c) ≤ length edges
  section_fits =
      let behind = length-drop (get_or slots c 0) edges in
      let most = g.most (suc c) (omega arith) in
      let part = length-take-le (get_or slots (suc c) 0 - get_or slots c 0) (drop (get_or slots c 0) edges) (omega (arith, behind, most)) in
      omega (arith, part, most)

  -- each has that label, and an edge with that label is among them
  section_edge : {x : ℕ} → x ∈ section edges slots c → edge_number (from_of x) (suc c) (to_of x) ∈ edges
  section_edge {x} m = Memᴰ.cast (omega (arith, g.only c x h m)) (section_in m)

  edge_section : (a b : ℕ) → b < most_vertices → edge_number a (suc c) b ∈ edges → edge_number a (suc c) b ∈ section edges slots c
  edge_section a b k e = g.all c (edge_number a (suc c) b) h e (edge_fields a (suc c) b (omega arith) k).1

  pub section_starting : (a b : ℕ) → b < most_vertices → edge_number a (suc c) b ∈ edges → Starting (section edges slots c) a
  section_starting a b k e =
      record { edge = edge_number a (suc c) b; listed = edge_section a b k e; from = (edge_fields a (suc c) b (omega arith) k).0 }

  pub section_leads : (a t : ℕ) → t < most_vertices → LeadsTo (section edges slots c) a t ↔ (edge_number a (suc c) t ∈ edges)
  section_leads a t k = (
    λ x. rw (x.from, x.to) at (section_edge x.listed),
    λ e.
        let f = edge_fields a (suc c) t (omega arith) k in
        record { edge = edge_number a (suc c) t; listed = edge_section a t k e; from = f.0; to = f.2 },
  )

  pub section_via : {w : List ℕ} {base a t : ℕ} → LeadsInto (section edges slots c) w base a t ↔ Via edges w base a (suc c) t
  section_via {w} {base} {a} {t} = (
    λ x. record { b = to_of x.edge; small = omega arith; stands = rw x.from at (section_edge x.listed); on = x.on },
    λ x.
        let f = edge_fields a (suc c) x.b (omega arith) x.small in
        record { edge = edge_number a (suc c) x.b; listed = edge_section a x.b x.small x.stands; from = f.0; on = rw f.2 x.on },
  )

-- ---- the same, of label c

module _ {edges slots : List ℕ} (g : Grouped edges slots) (c : ℕ) (h : (1 ≤ c) × (c ≤ most_label)) where
  is : suc (c - 1) ≡ c
  is = omega (arith, h)

  below : c - 1 < most_label
  below = omega (arith, h)

  pub label_outgoing : Outgoing (section edges slots (c - 1))
  label_outgoing = section_outgoing g (c - 1) below

  pub label_starting : (a b : ℕ) → b < most_vertices → edge_number a c b ∈ edges → Starting (section edges slots (c - 1)) a
  label_starting a b k e = section_starting g (c - 1) below a b k (rw is e)

  pub label_leads : (a t : ℕ) → t < most_vertices → LeadsTo (section edges slots (c - 1)) a t ↔ (edge_number a c t ∈ edges)
  label_leads a t k = subst (λ (n : ℕ). LeadsTo (section edges slots (c - 1)) a t ↔ (edge_number a n t ∈ edges)) is (section_leads g (c - 1) below a t k)

  pub label_via : {w : List ℕ} {base a t : ℕ} → LeadsInto (section edges slots (c - 1)) w base a t ↔ Via edges w base a c t
  label_via {w} {base} {a} {t} =
      subst (λ (n : ℕ). LeadsInto (section edges slots (c - 1)) w base a t ↔ Via edges w base a n t) is (section_via g (c - 1) below)

  pub label_fits : length (section edges slots (c - 1)) ≤ length edges
  label_fits = section_fits g (c - 1) below

-- ---- those that end in a row

-- each vertex whose row, of those from base on, has any vertex is in row `starts`
pub record Started (w : List ℕ) (base starts : ℕ) : Type 0 where
  pub all : (b t : ℕ) → b < most_vertices → t < most_vertices → On w (base + b) t → On w starts b

module _ {edges w : List ℕ} {starts : ℕ} {live : List ℕ} {n : ℕ} (l : Gathers edges w starts live n) where
  pub live_outgoing : Outgoing edges → Outgoing (take n live)
  live_outgoing o = record { small = λ x m. o.small x (l.only x m).0 }

  -- the others lead nowhere
  pub live_leads : {base a t : ℕ} → Started w base starts → t < most_vertices → LeadsInto (take n live) w base a t ↔ LeadsInto edges w base a t
  live_leads {base} {a} {t} s k = (
    λ x. record { edge = x.edge; listed = (l.only x.edge x.listed).0; from = x.from; on = x.on },
    λ x. record {
      edge = x.edge;
      listed = l.all x.edge x.listed (s.all (to_of x.edge) t (omega arith) k x.on);
      from = x.from;
      on = x.on;
    },
  )

module _ {edges slots w : List ℕ} {starts : ℕ} {live : List ℕ} {n : ℕ} (g : Grouped edges slots) (c : ℕ) (h : c < most_label) where
  pub live_via : {base a t : ℕ} → Gathers (section edges slots c) w starts live n → Started w base starts → t < most_vertices
      → LeadsInto (take n live) w base a t ↔ Via edges w base a (suc c) t
  live_via l s k =
      let (into, back) = live_leads l s k in
      let (to, from) = section_via g c h in
      (λ x. to (into x), λ x. back (from x))
