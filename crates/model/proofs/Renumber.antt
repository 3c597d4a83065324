-- Vertices numbered anew by their rank: the entries of the graph with an order are those of the renumbered graph in its own order, with
-- owner and hub put back.
use mathlib.Core.Path.{◌≡◌, refl, sym, ap, ap₂, ◌∙◌}
use mathlib.Core.Logic.{inl, inr}
use mathlib.Core.List.Memᴰ
use mathlib.Core.List.{List}
use Prim.Native.Nat.{ℕ, ◌≤◌, ◌<◌}
use native.Mathlib.Omega.{arith}
use lib.ListN.{get_or}
use Rattle.model.specs.Limits.{most_vertices, most_label, hub_unit}
use Rattle.model.specs.Lists.{◌∈◌, up_to}
use Rattle.model.specs.Edges.{Graph}
use Rattle.model.specs.Patterns.{Keyed, code}
use Rattle.model.specs.Walks.{Spells, here, edge, Runs, once, more, Stop}
use Rattle.model.specs.Order.{rank, Names}
use Rattle.model.specs.Entries.{Earliest, entry_of, out_entry, in_entry, IsEntry}
use Rattle.model.specs.Computed.Edges.{Small}
use Rattle.model.specs.Computed.Query.{side_of, owner_of, hub_of, code_of}
use Rattle.model.specs.Build.Hubs.{Between}
use Rattle.model.specs.Build.Renumber.{Renumbers, translate}
use Rattle.model.proofs.Patterns.{code_below}
use Rattle.model.proofs.Walks.{stop_iff, stop_to}
use Rattle.model.proofs.Ranks.{rank_at, rank_small, vertex_small, at_rank}
use Rattle.model.proofs.Hubs.{rank_own}

-- the fields of an entry number
pub entry_fields : (side a b c : ℕ) → a < most_vertices → b < most_vertices → c < hub_unit
    → (side_of (entry_of side a b c) ≡ side) × (owner_of (entry_of side a b c) ≡ a) × (hub_of (entry_of side a b c) ≡ b) × (code_of (entry_of side a b c) ≡ c)
entry_fields side a b c ha hb hc = (omega arith, omega arith, omega arith, omega arith)

pub translate_entry : (order : List ℕ) (side a b c : ℕ) → a < most_vertices → b < most_vertices → c < hub_unit
    → translate order (entry_of side a b c) ≡ entry_of side (get_or order a 0) (get_or order b 0) c
translate_entry order side a b c ha hb hc = let (p, q, r, t) = entry_fields side a b c ha hb hc in rw (p, q, r, t) refl

module _ (n k : ℕ) (order edges edges' : List ℕ) (names : Names n order) (e : Renumbers n order edges edges') where
  abbrev g : Graph
  g = record { vertices = n; longest = k; edges = edges }

  abbrev h : Graph
  h = record { vertices = n; longest = k; edges = edges' }

  abbrev r : ℕ → ℕ
  r v = rank order v

  abbrev o : ℕ → ℕ
  o i = get_or order i 0

  spells_there : {a b : ℕ} {w : List ℕ} → ((c : ℕ) → c ∈ w → c ≤ most_label) → Spells g a w b → Spells h (r a) w (r b)
  spells_there f here = here
  spells_there f (edge {a = a} {c = c} {b = b} d p) =
      edge (record { from = rank_small names d.from; to = rank_small names d.to; stands = e.there a c b d.from (f c (Memᴰ.head refl)) d.to d.stands })
      (spells_there (λ x m. f x (Memᴰ.tail m)) p)

  spells_back : {i j : ℕ} {w : List ℕ} → ((c : ℕ) → c ∈ w → c ≤ most_label) → Spells h i w j → Spells g (o i) w (o j)
  spells_back f here = here
  spells_back f (edge {a = i} {c = c} {b = j} d p) =
      edge (record { from = vertex_small names i d.from; to = vertex_small names j d.to; stands = e.back i c j d.from (f c (Memᴰ.head refl)) d.to d.stands })
      (spells_back (λ x m. f x (Memᴰ.tail m)) p)

  module _ {l : List ℕ} (keyed : Keyed k l) where
    labels : (c : ℕ) → c ∈ l → c ≤ most_label
    labels c m = (keyed.labels c m).1

    runs_there : {a b : ℕ} → Runs g l a b → Runs h l (r a) (r b)
    runs_there (once p) = once (spells_there labels p)
    runs_there (more p q) = more (spells_there labels p) (runs_there q)

    runs_back : {i j : ℕ} → Runs h l i j → Runs g l (o i) (o j)
    runs_back (once p) = once (spells_back labels p)
    runs_back (more p q) = more (spells_back labels p) (runs_back q)

    between_there : {s t u : ℕ} → Between g l s t u → Between h l (r s) (r t) (r u)
    between_there (inl q) = inl (ap r q)
    between_there (inr (inl q)) = inr (inl (ap r q))
    between_there (inr (inr (p, q))) = inr (inr (runs_there p, runs_there q))

    between_back : {s t u : ℕ} → Between h l s t u → Between g l (o s) (o t) (o u)
    between_back (inl q) = inl (ap o q)
    between_back (inr (inl q)) = inr (inl (ap o q))
    between_back (inr (inr (p, q))) = inr (inr (runs_back p, runs_back q))

    stop_there : {s t u : ℕ} → Stop g l s t u → Stop h l (r s) (r t) (r u)
    stop_there k = stop_iff.1 (runs_there k.walk, between_there (stop_iff.0 k).1)

    stop_back : {s t u : ℕ} → Stop h l s t u → Stop g l (o s) (o t) (o u)
    stop_back k = stop_iff.1 (runs_back k.walk, between_back (stop_iff.0 k).1)

    -- the earliest stop is the same, by its rank
    earliest_there : {s t u : ℕ} → s < n → t < n → u < n → Earliest g order l s t u → Earliest h (up_to n) l (r s) (r t) (r u)
    earliest_there {s} {t} {u} hs ht hu a = record {
      stop = stop_there a.stop;
      least = λ v k.
          let hv = stop_to k (rank_small names hs) in
          let z = rw (at_rank names hs, at_rank names ht) at (stop_back k) in
          rw (rank_own n (r u) (rank_small names hu), rank_own n v hv) (rw (rank_at names v hv) at (a.least (o v) z));
    }

    earliest_back : {s t u : ℕ} → s < n → t < n → u < n → Earliest h (up_to n) l s t u → Earliest g order l (o s) (o t) (o u)
    earliest_back {s} {t} {u} hs ht hu a = record {
      stop = stop_back a.stop;
      least = λ v k.
          let hv = stop_to k (vertex_small names s hs) in
          let z = rw (rank_at names s hs, rank_at names t ht) at (stop_there k) in
          rw (rank_at names u hu) (rw (rank_own n u hu, rank_own n (r v) (rank_small names hv)) at (a.least (r v) z));
    }

  module _ (small : Small g) where
    bound : {v : ℕ} → v < n → v < most_vertices
    bound b = omega (arith, small.vertices_small)

    same : {v : ℕ} → v < n → o (r v) ≡ v
    same b = at_rank names b

    -- each entry of the graph is one of the renumbered graph, put back
    pub entry_there : {x : ℕ} → IsEntry g order x → (y : ℕ) × IsEntry h (up_to n) y × (x ≡ translate order y)
    entry_there (IsEntry.out s t l q a i) =
        let hs = rank_small names q.from in
        let ht = rank_small names q.to in (
          out_entry (r s) (r t) l,
          IsEntry.out (r s) (r t) l (record { from = hs; to = ht; pattern = q.pattern }) (earliest_there q.pattern.keyed q.from q.to q.to a) refl,
          i ∙ sym (translate_entry order 0 (r s) (r t) (code l) (bound hs) (bound ht) (code_below small.longest_small q.pattern.keyed) ∙ ap₂ (λ (x y : ℕ). entry_of 0 x y (code l)) (same q.from) (same q.to)),
        )
    entry_there (IsEntry.into s t l q a d i) =
        let hs = rank_small names q.from in
        let ht = rank_small names q.to in (
          in_entry (r t) (r s) l,
          IsEntry.into (r s) (r t) l (record { from = hs; to = ht; pattern = q.pattern }) (earliest_there q.pattern.keyed q.from q.to q.from a) (λ z. d (sym (same q.from) ∙ ap o z ∙ same q.to)) refl,
          i ∙ sym (translate_entry order 1 (r t) (r s) (code l) (bound ht) (bound hs) (code_below small.longest_small q.pattern.keyed) ∙ ap₂ (λ (x y : ℕ). entry_of 1 x y (code l)) (same q.to) (same q.from)),
        )

    pub entry_back : {y : ℕ} → IsEntry h (up_to n) y → IsEntry g order (translate order y)
    entry_back (IsEntry.out s t l q a i) =
        IsEntry.out (o s) (o t) l (record { from = vertex_small names s q.from; to = vertex_small names t q.to; pattern = q.pattern }) (earliest_back q.pattern.keyed q.from q.to q.to a)
        (ap (translate order) i ∙ translate_entry order 0 s t (code l) (bound q.from) (bound q.to) (code_below small.longest_small q.pattern.keyed))
    entry_back (IsEntry.into s t l q a d i) =
        IsEntry.into (o s) (o t) l (record { from = vertex_small names s q.from; to = vertex_small names t q.to; pattern = q.pattern }) (earliest_back q.pattern.keyed q.from q.to q.from a)
        (λ z. d (sym (rank_at names s q.from) ∙ ap r z ∙ rank_at names t q.to))
        (ap (translate order) i ∙ translate_entry order 1 t s (code l) (bound q.to) (bound q.from) (code_below small.longest_small q.pattern.keyed))
