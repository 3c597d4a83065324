-- Edge memory, for callers: what check 3 and a lookup say of it, and what an insertion and a removal leave.
use mathlib.Core.Path.{◌≡◌, refl, sym}
use mathlib.Core.Logic.{◌≢◌}
use mathlib.Core.Bool.{true, false}
use mathlib.Core.List.{List}
use Prim.Native.Nat.{ℕ, ◌≤◌, ◌<◌}
use native.Mathlib.Decide.{dec_lt}
use native.Mathlib.Omega.{arith}
use lib.ListN.{length, get_or, take}
use borrow.Author.Tests.{eq-eqb, ne_eqb, lt-ltb, le-ltb}
use Rattle.model.specs.Limits.{most_edges}
use Rattle.model.specs.Lists.{◌∈◌, Rising}
use Rattle.model.specs.Edges.{standing}
use Rattle.model.specs.Computed.Lists.{lower_bound}
use Rattle.model.specs.Computed.Edges.{edge?, edge_memory?}
use Rattle.model.proofs.Tests.{test_dec, test_and, test_eq, test_lt, both_ways}
use Rattle.model.proofs.Lists.{get_d_in}
use Rattle.model.proofs.Insertion.{placed, placed_most, placed_stands}
use Rattle.model.proofs.Memory.{edge_memory}
pub use Rattle.model.proofs.Insertion.{length_insert, member_insert, rising_insert, length_remove, member_remove, rising_remove}
use Rattle.model.proofs.Zeros.{filled_within, filled_front}
use Rattle.std.specs.Prelude.{Some, None, Ok, Err}
use Rattle.edges.specs.Memory.{scan_of, find_of, Holds}

-- ---- check 3

-- edge memory of the graph, in which n edges stand
pub record Scans (vertices : ℕ) (xs : List ℕ) (n : ℕ) : Type 0 where
  pub memory : edge_memory? vertices xs ≡ true
  pub slots : length xs ≤ most_edges
  pub count : n ≡ length (standing xs)
  pub within : n ≤ length xs
  pub front : take n xs ≡ standing xs
  pub holds : Holds xs n
  pub rising : Rising (standing xs)
  pub edges : (x : ℕ) → x ∈ standing xs → edge? vertices x ≡ true

module _ {xs : List ℕ} {n : ℕ} (h : Holds xs n) where
  pub holds_within : n ≤ length xs
  holds_within = rw h.count (filled_within (standing xs) h.zeros)

  pub holds_front : take n xs ≡ standing xs
  holds_front = rw h.count (filled_front (standing xs) h.zeros)

one_result : {A : Type 0} {n : ℕ} → Some n ≡ None → A
one_result e = absurd (let z : ◌≡◌ {A = ℕ} 0 1 = cc in omega arith)

module _ (vertices : ℕ) (xs : List ℕ) where
  pub scans : {n : ℕ} → scan_of vertices xs ≡ Some n → Scans vertices xs n
  unfolding scan_of
  scans {n} e = both_ways (edge_memory? vertices xs) (λ t. given t (rw t at e)) (λ t. one_result (sym (rw t at e)))
    where
      given : edge_memory? vertices xs ≡ true → Some (length (standing xs)) ≡ Some n → Scans vertices xs n
      given t e =
          let (few, o) = edge_memory vertices xs t in
          let c : n ≡ length (standing xs) = cc in
          let h : Holds xs n = record { count = c; zeros = o.zeros } in
          record {
            memory = t;
            slots = few;
            count = c;
            within = holds_within h;
            front = holds_front h;
            holds = h;
            rising = o.sorted;
            edges = λ x m. (o.each x m).1;
          }

  pub scans_none : scan_of vertices xs ≡ None → edge_memory? vertices xs ≡ false
  unfolding scan_of
  scans_none e = both_ways (edge_memory? vertices xs) (λ t. one_result (rw t at e)) (λ t. t)

-- ---- the lookup

-- x stands in ys at slot i
pub record Stands (x : ℕ) (ys : List ℕ) (i : ℕ) : Type 0 where
  pub place : i ≡ lower_bound x ys
  pub inside : i < length ys
  pub there : get_or ys i 0 ≡ x
  pub member : x ∈ ys

-- x is not in ys, and belongs before slot i
pub record Lacks (x : ℕ) (ys : List ℕ) (i : ℕ) : Type 0 where
  pub place : i ≡ lower_bound x ys
  pub within : i ≤ length ys
  pub absent : ¬ (x ∈ ys)

module _ (x : ℕ) (ys : List ℕ) where
  pub find_at : {i : ℕ} → lower_bound x ys ≡ i → i < length ys → get_or ys i 0 ≡ x → find_of x ys ≡ Ok i
  unfolding find_of
  find_at {i} e h q = rw (e, lt-ltb i (length ys) h, eq-eqb (get_or ys i 0) x q)

  pub find_before : {i : ℕ} → lower_bound x ys ≡ i → (i < length ys → get_or ys i 0 ≢ x) → find_of x ys ≡ Err i
  unfolding find_of
  find_before {i} e n = elim (dec_lt i (length ys)) [
    | yes l ↦ rw (e, lt-ltb i (length ys) l, ne_eqb (get_or ys i 0) x (n l))
    | no l ↦ rw (e, le-ltb i (length ys) (omega arith))
  ]

  -- a lookup that finds one does not find the other
  one_way : {A : Type 0} {i j : ℕ} → find_of x ys ≡ Ok i → find_of x ys ≡ Err j → A
  one_way p q = absurd (let z : ◌≡◌ {A = ℕ} 0 1 = cc in omega arith)

  pub stands : {i : ℕ} → find_of x ys ≡ Ok i → Stands x ys i
  stands {i} e = elim (test_dec (test_and (test_lt (lower_bound x ys) (length ys)) (test_eq (get_or ys (lower_bound x ys) 0) x))) [
    | yes (l, q) ↦
        let f = find_at refl l q in
        let p : i ≡ lower_bound x ys = cc in
        record { place = p; inside = rw p l; there = rw p q; member = rw (← q) (get_d_in ys (lower_bound x ys) l) }
    | no d ↦ one_way e (find_before refl (λ l q. d (l, q)))
  ]

  pub lacks : {i : ℕ} → Rising ys → find_of x ys ≡ Err i → Lacks x ys i
  lacks {i} r e =
      let f = find_before refl (λ l q. one_way (find_at refl l q) e) in
      let p : i ≡ lower_bound x ys = cc in
      record {
        place = p;
        within = rw p (placed_most (placed x ys));
        absent = λ m. let (l, q) = placed_stands (placed x ys) r m in one_way (find_at refl l q) e;
      }
