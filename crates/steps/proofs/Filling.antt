-- Rows filled, one for each vertex; one row with where edges start; and rows emptied.
use mathlib.Core.Path.{◌≡◌, sym, ◌∙◌}
use mathlib.Core.Logic.{◌⊎◌, inl, inr, ⊎_elim, ⊎_map, ◌↔◌}
use mathlib.Core.List.{List}
use Prim.Native.Nat.{ℕ, ◌+◌, ◌-◌, ◌≤◌, ◌<◌}
use native.Mathlib.Omega.{arith}
use native.Mathlib.Decide.{ℕ_discrete}
use lib.ListN.{length, get_or, take, drop}
use Rattle.model.specs.Limits.{most_vertices}
use Rattle.model.specs.Edges.{from_of, to_of}
use Rattle.rows.specs.Rows.{cell, On, KeepsRows, InRows, Becomes}
use Rattle.rows.proofs.Rows.{row_as, becomes_as, keeps_then, keeps_cell, keeps_row}
use Rattle.steps.specs.Filling.{Clears, FillsRows, Outgoing, Starting, LeadsTo, LeadsInto, RowsFillable, EndsFillable}
use Rattle.steps.proofs.Kept.{keeps_one}
use Rattle.steps.proofs.Passing.{from_vertex, starting_more, leads_more, leads_into_more, starting_later, none_left}

module _ {base : ℕ} {P : ℕ → ℕ → Type 0} {w : List ℕ} where
  -- row s gains the vertices of Q
  pub fills_more : {w' w'' : List ℕ} {s : ℕ} {Q : ℕ → Type 0} {R : ℕ → ℕ → Type 0} → FillsRows base P w w' → s < most_vertices
      → Becomes w' w'' (base + s) (λ t. On w' (base + s) t ⊎ Q t)
      → ((a t : ℕ) → a < most_vertices → t < most_vertices → (P a t ⊎ ((a ≡ s) × Q t)) ↔ R a t) → FillsRows base R w w''
  fills_more {s = s} g h b f =
      record {
        keeps = keeps_then g.keeps (keeps_one h b);
        rows = λ a k. elim (ℕ_discrete a s) [
          | yes e ↦ row_as (λ t l. (
            ⊎_elim (λ o. (f a t k l).0 (inl ((g.rows a k).only t l (rw e o)))) (λ q. (f a t k l).0 (inr (e, q))),
            λ r. ⊎_elim (λ p. inl (rw (← e) ((g.rows a k).all t l p))) (λ q. inr q.1) ((f a t k l).1 r),
          )) (rw e b.row)
          | no n ↦ row_as (λ t l. (λ p. (f a t k l).0 (inl p), λ r. ⊎_elim (λ p. p) (λ q. absurd (n q.0)) ((f a t k l).1 r)))
              (keeps_row b.keeps (λ e. n (omega arith)) (g.rows a k))
        ];
      }

  pub fills_as : {w' : List ℕ} {R : ℕ → ℕ → Type 0} → FillsRows base P w w' → ((a t : ℕ) → a < most_vertices → P a t ↔ R a t)
      → FillsRows base R w w'
  fills_as g f = record { keeps = g.keeps; rows = λ a h. row_as (λ t _. f a t h) (g.rows a h) }

-- ---- each vertex alone, for the vertices below a number

pub identity_more : {w w' w'' : List ℕ} {base n : ℕ} → FillsRows base (λ a t. (a < n) × (t ≡ a)) w w' → n < most_vertices
    → Becomes w' w'' (base + n) (λ t. On w' (base + n) t ⊎ (t ≡ n)) → FillsRows base (λ a t. (a < n + 1) × (t ≡ a)) w w''
identity_more {n = n} g h b = fills_more g h b (λ a t _ _. (
  ⊎_elim (λ p. (omega (arith, p.0), p.1)) (λ q. (omega (arith, q.0), q.1 ∙ sym q.0)),
  λ p. elim (ℕ_discrete a n) [ yes e ↦ inr (e, p.1 ∙ e) | no d ↦ inl (omega (arith, p.0), p.1) ],
))

pub identity_all : {w w' : List ℕ} {base n : ℕ} → FillsRows base (λ a t. (a < n) × (t ≡ a)) w w' → most_vertices ≤ n → FillsRows base (λ a t. t ≡ a) w w'
identity_all g h = fills_as g (λ a t k. (λ p. p.1, λ e. (omega arith, e)))

-- ---- by the first i edges of a list

module _ {edges w : List ℕ} {from to : ℕ} (s : RowsFillable edges w from to) where
  pub into_more : {w' w'' : List ℕ} {i : ℕ} → i < length edges → FillsRows to (LeadsInto (take i edges) w from) w w'
      → let x = get_or edges i 0 in let r = to + from_of x in Becomes w' w'' r (λ t. On w' r t ⊎ On w' (from + to_of x) t)
      → FillsRows to (LeadsInto (take (i + 1) edges) w from) w w''
  into_more {w' = w'} {w'' = w''} {i = i} h g b = fills_more g (from_vertex edges i h s.outgoing) joined (λ a t _ _. leads_into_more edges i h)
    where
      x : ℕ
      x = get_or edges i 0

      -- the rows that are led to are not those that are filled
      other : InRows to (to + most_vertices) (from + to_of x) → ⊥
      other a = s.apart (from + to_of x - to) (to_of x) (omega (arith, a.least, a.most)) (omega arith) (omega (arith, a.least))

      kept : (t : ℕ) → t < most_vertices → cell w' (from + to_of x) t ≡ cell w (from + to_of x) t
      kept t k = keeps_cell g.keeps (from + to_of x) other t k

      joined : Becomes w' w'' (to + from_of x) (λ t. On w' (to + from_of x) t ⊎ On w (from + to_of x) t)
      joined = becomes_as b (λ t k. (⊎_map (λ o. o) (λ o. sym (kept t k) ∙ o), ⊎_map (λ o. o) (λ o. kept t k ∙ o)))

module _ {edges w : List ℕ} {to : ℕ} (s : EndsFillable edges w to) where
  pub ends_more : {w' w'' : List ℕ} {i : ℕ} → i < length edges → FillsRows to (LeadsTo (take i edges)) w w'
      → let x = get_or edges i 0 in let r = to + from_of x in Becomes w' w'' r (λ t. On w' r t ⊎ (t ≡ to_of x)) → FillsRows to (LeadsTo (take (i + 1) edges)) w w''
  ends_more {i = i} h g b = fills_more g (from_vertex edges i h s.outgoing) b (λ a t _ _. leads_more edges i h)

-- ---- one row: where the first i edges of a list start

module _ (edges : List ℕ) {w w' : List ℕ} {r : ℕ} where
  pub starts_more : (i : ℕ) → i < length edges → Becomes w w' r (Starting (take i edges))
      → {w'' : List ℕ} → Becomes w' w'' r (λ a. On w' r a ⊎ (a ≡ from_of (get_or edges i 0))) → Becomes w w'' r (Starting (take (i + 1) edges))
  starts_more i h g b =
      record {
        keeps = keeps_then g.keeps b.keeps;
        row = row_as (λ a k. (
          λ o. (starting_more edges i h).0 (⊎_map (g.row.only a k) (λ e. e) o),
          λ s. ⊎_map (g.row.all a k) (λ e. e) ((starting_more edges i h).1 s),
        )) b.row;
      }

-- ---- the rows of the vertices where edges start, emptied

-- of the rows from base on, only those of vertices where an edge from number i on starts have any vertex
pub record Emptying (edges w : List ℕ) (base : ℕ) (w' : List ℕ) (i : ℕ) : Type 0 where
  pub keeps : KeepsRows w w' (λ r. InRows base (base + most_vertices) r → ⊥)
  pub sources : (a t : ℕ) → a < most_vertices → t < most_vertices → On w' (base + a) t → Starting (drop i edges) a

module _ {edges w : List ℕ} {base : ℕ} where
  module _ {w' : List ℕ} {i : ℕ} (g : Emptying edges w base w' i) where
    pub emptying_more : {w'' : List ℕ} → Outgoing edges → i < length edges → Becomes w' w'' (base + from_of (get_or edges i 0)) (λ _. ⊥)
        → Emptying edges w base w'' (i + 1)
    emptying_more {w''} o h b =
        record {
          keeps = keeps_then g.keeps (keeps_one (from_vertex edges i h o) b);
          sources = λ a t k l on. elim (ℕ_discrete a (from_of (get_or edges i 0))) [
            | yes e ↦ absurd (b.row.only t l (rw e at on))
            | no n ↦ starting_later edges i h (g.sources a t k l (sym (keeps_cell b.keeps (base + a) (λ e. n (omega arith)) t l) ∙ on)) n
          ];
        }

    pub emptying_all : length edges ≤ i → Clears w w' base most_vertices
    emptying_all h =
        record {
          keeps = g.keeps;
          empty = record {
            none = λ r t a l on.
                let e : r ≡ base + (r - base) = omega (arith, a.least) in
                none_left edges i h (g.sources (r - base) t (omega (arith, a.least, a.most)) l (rw e at on));
          };
        }
