-- Laws of ranks: in an order that names each vertex once, each stands at its rank and is known by it.
-- Before them, laws of counting by a test, and what a self-edge counts.
use mathlib.Core.Path.{◌≡◌, refl, sym, ap, ◌∙◌}
use mathlib.Core.Logic.{◌⊎◌, inl, inr, ⊎_elim, ◌≢◌}
use mathlib.Core.Bool.{Bool, true, false, not}
use mathlib.Core.List.Memᴰ
use mathlib.Core.List.{List, [], ◌∷◌}
use Prim.Native.Nat.{ℕ, zero, suc, ◌+◌, ◌/◌, ◌≤◌, ◌<◌}
use native.Mathlib.Nat.{le_of_suc-le-suc, not-suc-le-zero}
use native.Mathlib.Decide.{ℕ_discrete}
use native.Mathlib.Omega.{arith}
use lib.Dec.{T, eqb}
use lib.ListN.{length, get_or, set, take}
use lib.Seq.{get_or-take, length-take-le, ext_get_or}
use Rattle.model.specs.Limits.{from_unit, label_unit}
use Rattle.model.specs.Lists.{◌∈◌, put, keep, up_to, Sorted, none, next}
use Rattle.model.specs.Edges.{edge_number, from_of, to_of}
use Rattle.model.specs.Order.{out_degree, in_degree, rank, Names}
use Rattle.model.specs.Computed.Edges.{bare}
use Rattle.model.proofs.Tests.{Tests, test_true, test_false, test_not, test_eq}
use Rattle.model.proofs.Lists.{keep_in, keep_out, up_to_lem, below, length_from_lem, rising_from, sorted_keep, sorted_imp, get_d_in, get_d_set}
use Rattle.model.proofs.Order.{rank_here, rank_there, rank_same}

-- ---- how many elements pass a test

abbrev pub one : Bool → ℕ
one true = 1
one false = 0

none_in : (l : List ℕ) → ((x : ℕ) → x ∈ l → ⊥) → length l ≡ 0
none_in [] h = refl
none_in (x ∷ l) h = absurd (h x (Memᴰ.head refl))

module _ (f : ℕ → Bool) where
  pub keep_more : (x : ℕ) (l : List ℕ) → length (keep f (x ∷ l)) ≡ one (f x) + length (keep f l)
  unfolding keep
  keep_more x l = go (f x)
    where
      go : (b : Bool) → length (put b x (keep f l)) ≡ one b + length (keep f l)
      go true = omega arith
      go false = omega arith

  pub keep_none : (l : List ℕ) → ((x : ℕ) → x ∈ l → ¬ T (f x)) → length (keep f l) ≡ 0
  keep_none l h = none_in (keep f l) (λ x m. let (k, t) = keep_out f l m in h x k t)

  keep_yes : (x : ℕ) (l : List ℕ) → f x ≡ true → keep f (x ∷ l) ≡ x ∷ keep f l
  unfolding keep
  keep_yes x l e = rw e

  keep_no : (x : ℕ) (l : List ℕ) → f x ≡ false → keep f (x ∷ l) ≡ keep f l
  unfolding keep
  keep_no x l e = rw e

  keep_all : (l : List ℕ) → ((x : ℕ) → x ∈ l → f x ≡ true) → keep f l ≡ l
  unfolding keep
  keep_all [] h = refl
  keep_all (x ∷ l) h = keep_yes x l (h x (Memᴰ.head refl)) ∙ ap (λ m. x ∷ m) (keep_all l (λ z m. h z (Memᴰ.tail m)))

-- what stands at k once the number at i is raised by 1
pub raised : (l : List ℕ) (i k : ℕ) {b : Bool} → i < length l → Tests b (i ≡ k) → get_or (set l i (get_or l i 0 + 1)) k 0 ≡ get_or l k 0 + one b
raised l i k h t =
    get_d_set l i (get_or l i 0 + 1) k _ h (λ e. rw (e, test_true t (sym e))) (λ n. rw (test_false t (λ e. n (sym e))) (omega arith))

-- an edge from v to itself counts on both sides
pub self_edge : (n v c : ℕ) (edges : List ℕ) → v < label_unit → c < from_unit / label_unit →
    let g = bare n edges in
    let h = bare n (edge_number v c v ∷ edges) in
    (out_degree h v ≡ suc (out_degree g v)) × (in_degree h v ≡ suc (in_degree g v))
self_edge n v c edges a b =
    let x = edge_number v c v in
    (ap length (keep_yes _ x edges (test_true (test_eq (from_of x) v) (omega arith))), ap length (keep_yes _ x edges (test_true (test_eq (to_of x) v) (omega arith))))

-- the elements other than x
other : ℕ → ℕ → Bool
other x z = not (eqb z x)

test_other : (x z : ℕ) → Tests (other x z) (z ≢ x)
unfolding other
test_other x z = test_not (test_eq z x)

module _ (f : ℕ → Bool) where
  -- of a list that has x once: x, and the others
  keep_other : {x : ℕ} {m : List ℕ} → Sorted ◌≢◌ m → x ∈ m → length (keep f m) ≡ one (f x) + length (keep f (keep (other x) m))
  keep_other none h = absurd (Memᴰ.not-nil h)
  keep_other {x} (next {x = z} {l = m} g s) h = go (λ k. keep_other s k) (Memᴰ.cases_cons h)
    where
      go : (x ∈ m → length (keep f m) ≡ one (f x) + length (keep f (keep (other x) m))) → (x ≡ z) ⊎ (x ∈ m)
          → length (keep f (z ∷ m)) ≡ one (f x) + length (keep f (keep (other x) (z ∷ m)))
      go r (inl e) =
          let all = keep_all (other x) m (λ u k. test_true (test_other x u) (λ q. g u k (sym e ∙ sym q))) in
          rw (keep_no (other x) z m (test_false (test_other x z) (λ n. n (sym e))), all, e) (keep_more f z m)
      go r (inr k) =
          rw (keep_yes (other x) z m (test_true (test_other x z) (g x k))) (omega (arith, keep_more f z m, keep_more f z (keep (other x) m), r k))

  -- two lists that have the same elements, each once
  same_count : {l m : List ℕ} → Sorted ◌≢◌ l → Sorted ◌≢◌ m → ((x : ℕ) → x ∈ l → x ∈ m) → ((x : ℕ) → x ∈ m → x ∈ l) → length (keep f l) ≡ length (keep f m)
  unfolding keep
  same_count {m = m} none t p q = sym (keep_none f m (λ x k. absurd (Memᴰ.not-nil (q x k))))
  same_count {m = m} (next {x = x} {l = l} g s) t p q =
      omega (arith, keep_more f x l, same_count s (sorted_keep (other x) t) there back, keep_other t (p x (Memᴰ.head refl)))
    where
      there : (z : ℕ) → z ∈ l → z ∈ keep (other x) m
      there z k = keep_in (other x) (p z (Memᴰ.tail k)) ((test_other x z).passes (λ e. g z k (sym e)))

      back : (z : ℕ) → z ∈ keep (other x) m → z ∈ l
      back z k =
          let (a, b) = keep_out (other x) m k in
          ⊎_elim (λ e. absurd ((test_other x z).yields b e)) (λ i. i) (Memᴰ.cases_cons (q z a))

-- ---- ranks in any order

rank_lt : {v : ℕ} {l : List ℕ} → v ∈ l → rank l v < length l
rank_lt {v} (Memᴰ.head {x = u} {xs = l} e) = omega (arith, rank_here (λ x. x) v u l e)
rank_lt {v} (Memᴰ.tail {x = u} {xs = l} m) = elim (ℕ_discrete v u) [
  | yes e ↦ omega (arith, rank_here (λ x. x) v u l e)
  | no n ↦ omega (arith, rank_there (λ x. x) v u l n, rank_lt m)
]

rank_get_d : {l : List ℕ} → Sorted ◌≢◌ l → (i : ℕ) → i < length l → rank l (get_or l i 0) ≡ i
rank_get_d none i h = absurd (not-suc-le-zero h)
rank_get_d (next {x = u} {l = l} f s) zero h = rank_here (λ x. x) u u l refl
rank_get_d (next {x = u} {l = l} f s) (suc i) h =
    let k = le_of_suc-le-suc h in
    rank_there (λ x. x) (get_or l i 0) u l (λ e. f (get_or l i 0) (get_d_in l i k) (sym e)) ∙ ap suc (rank_get_d s i k)

module _ {n : ℕ} {order : List ℕ} (o : Names n order) where
  names_count : (f : ℕ → Bool) → length (keep f order) ≡ length (keep f (up_to n))
  names_count f = same_count f o.once (sorted_imp (λ x z h e. absurd (omega arith)) (rising_from 0 n)) (λ v m. up_to_lem (o.only v m)) (λ v m. o.each v (below m))

  pub names_length : length order ≡ n
  names_length = ap length (sym (all order)) ∙ names_count (λ _. true) ∙ ap length (all (up_to n)) ∙ length_from_lem 0 n
    where
      all : (l : List ℕ) → keep (λ _. true) l ≡ l
      all l = keep_all (λ _. true) l (λ x m. refl)

  pub rank_at : (i : ℕ) → i < n → rank order (get_or order i 0) ≡ i
  rank_at i h = rank_get_d o.once i (omega (arith, names_length))

  pub rank_small : {v : ℕ} → v < n → rank order v < n
  rank_small {v} h = omega (arith, names_length, rank_lt (o.each v h))

  pub vertex_small : (i : ℕ) → i < n → get_or order i 0 < n
  vertex_small i h = o.only (get_or order i 0) (get_d_in order i (omega (arith, names_length)))

  pub at_rank : {v : ℕ} → v < n → get_or order (rank order v) 0 ≡ v
  at_rank {v} h = let k = rank_small h in rank_same o (vertex_small (rank order v) k) h (rank_at (rank order v) k)

  -- a list that has the order's vertices in their places starts with the order
  pub by_places : (l : List ℕ) → n ≤ length l → ((i : ℕ) → i < n → get_or l i 0 ≡ get_or order i 0) → take n l ≡ order
  by_places l h f = ext_get_or 0 (take n l) order (long ∙ sym names_length) (λ i k. same i (omega (arith, long)))
    where
      long : length (take n l) ≡ n
      long = length-take-le n l h

      same : (i : ℕ) → i < n → get_or (take n l) i 0 ≡ get_or order i 0
      same i k = get_or-take n l i 0 k ∙ f i k
