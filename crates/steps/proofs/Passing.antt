-- The edges of a list, passed one after another: the first i of them, and those from number i on.
use mathlib.Core.Path.{◌≡◌, refl, sym, subst}
use mathlib.Core.Logic.{◌⊎◌, inl, inr, ⊎_elim, ◌↔◌}
use mathlib.Core.List.Memᴰ
use mathlib.Core.List.{List, [], ◌∷◌, ◌++◌}
use Prim.Native.Nat.{ℕ, suc, ◌+◌, ◌≤◌, ◌<◌}
use native.Mathlib.Omega.{arith}
use native.Mathlib.Numerals.{add-one}
use lib.ListN.{length, get_or, take, drop, drop_of_length-le}
use lib.Seq.{take-suc, drop-cons}
use Rattle.model.specs.Limits.{most_vertices}
use Rattle.model.specs.Lists.{◌∈◌}
use Rattle.model.specs.Edges.{from_of, to_of}
use Rattle.model.proofs.Lists.{get_d_in}
use Rattle.rows.specs.Rows.{On}
use Rattle.steps.specs.Filling.{Outgoing, Starting, LeadsTo, LeadsInto}

-- the last element, or one before it
pub before_or_last : (l : List ℕ) {x z : ℕ} → z ∈ l ++ (x ∷ []) → (z ∈ l) ⊎ (z ≡ x)
before_or_last l m = ⊎_elim inl (λ n. inr (⊎_elim (λ e. e) (λ k. absurd (Memᴰ.not-nil k)) (Memᴰ.cases_cons n))) (Memᴰ.append_cases l m)

module _ (edges : List ℕ) (i : ℕ) (h : i < length edges) where
  -- the next edge
  abbrev x : ℕ
  x = get_or edges i 0

  pub from_vertex : Outgoing edges → from_of x < most_vertices
  from_vertex o = o.small x (get_d_in edges i h)

  take_more : take (i + 1) edges ≡ take i edges ++ (x ∷ [])
  take_more = rw (add-one i) (take-suc edges i 0 h)

  pub passed : {z : ℕ} → z ∈ take i edges → z ∈ take (i + 1) edges
  passed m = rw take_more (Memᴰ.append_left (x ∷ []) m)

  pub newly : x ∈ take (i + 1) edges
  newly = rw take_more (Memᴰ.append_right (take i edges) (Memᴰ.head refl))

  pub passed_or_new : {z : ℕ} → z ∈ take (i + 1) edges → (z ∈ take i edges) ⊎ (z ≡ x)
  passed_or_new m = before_or_last (take i edges) (rw take_more at m)

  pub starting_more : {a : ℕ} → (Starting (take i edges) a ⊎ (a ≡ from_of x)) ↔ Starting (take (i + 1) edges) a
  starting_more {a} = (
    ⊎_elim (λ s. record { edge = s.edge; listed = passed s.listed; from = s.from }) (λ e. record { edge = x; listed = newly; from = sym e }),
    λ s. ⊎_elim (λ m. inl (record { edge = s.edge; listed = m; from = s.from })) (λ e. inr (omega (arith, s.from))) (passed_or_new s.listed),
  )

  pub leads_more : {a t : ℕ} → (LeadsTo (take i edges) a t ⊎ ((a ≡ from_of x) × (t ≡ to_of x))) ↔ LeadsTo (take (i + 1) edges) a t
  leads_more {a} {t} = (
    ⊎_elim
        (λ s. record { edge = s.edge; listed = passed s.listed; from = s.from; to = s.to })
        (λ e. record { edge = x; listed = newly; from = sym e.0; to = sym e.1 }),
    λ s. ⊎_elim
        (λ m. inl (record { edge = s.edge; listed = m; from = s.from; to = s.to }))
        (λ e. inr (omega (arith, s.from), omega (arith, s.to)))
        (passed_or_new s.listed),
  )

  pub leads_into_more : {w : List ℕ} {base a t : ℕ} → (LeadsInto (take i edges) w base a t ⊎ ((a ≡ from_of x) × On w (base + to_of x) t))
      ↔ LeadsInto (take (i + 1) edges) w base a t
  leads_into_more {w} {base} {a} {t} = (
    ⊎_elim
        (λ s. record { edge = s.edge; listed = passed s.listed; from = s.from; on = s.on })
        (λ e. record { edge = x; listed = newly; from = sym e.0; on = e.1 }),
    λ s. ⊎_elim
        (λ m. inl (record { edge = s.edge; listed = m; from = s.from; on = s.on }))
        (λ e. inr (omega (arith, s.from), subst (λ (z : ℕ). On w (base + to_of z) t) e s.on))
        (passed_or_new s.listed),
  )

  -- of the edges from number i on, one that does not start where the next does comes later
  pub starting_later : {a : ℕ} → Starting (drop i edges) a → (a ≡ from_of x → ⊥) → Starting (drop (i + 1) edges) a
  starting_later {a} s n = rw (add-one i) (record { edge = s.edge; listed = later; from = s.from })
    where
      later : s.edge ∈ drop (suc i) edges
      later = ⊎_elim (λ e. absurd (n (omega (arith, s.from)))) (λ m. m) (Memᴰ.cases_cons (rw (drop-cons edges i 0 h) at s.listed))

-- no edge left
pub none_left : (edges : List ℕ) (i : ℕ) {a : ℕ} → length edges ≤ i → Starting (drop i edges) a → ⊥
none_left edges i h s = Memᴰ.not-nil (rw (drop_of_length-le edges h) at s.listed)
