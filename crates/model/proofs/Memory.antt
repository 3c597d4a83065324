-- Edge memory as it is written: the edges that were put in stand there, and it passes check 3.
use mathlib.Core.Path.{◌≡◌, refl, ap}
use mathlib.Core.Bool.{true}
use mathlib.Core.Logic.{⊎_elim}
use mathlib.Core.List.Memᴰ
use mathlib.Core.List.{List, [], ◌∷◌, ◌++◌}
use Prim.Native.Nat.{ℕ, zero, suc, ◌-◌, ◌≤◌}
use native.Mathlib.Omega.{arith}
use lib.ListN.{length, replicate, length-append, length-replicate}
use Rattle.model.specs.Limits.{most_edges, label_unit}
use Rattle.model.specs.Lists.{◌∈◌, Rising, filled}
use Rattle.model.specs.Edges.{standing}
use Rattle.model.specs.Computed.Edges.{edge?, rising?, rising_edges?, edge_memory?}
use Rattle.model.proofs.Tests.{test_true, test_yields, test_and, test_eq, test_le, by_test, test_T}
use Rattle.model.proofs.Edges.{test_edge}
use Rattle.model.proofs.Zeros.{not_zero, rising_zeros, Ordered, ordered}

-- an edge has a label
pub edge_least : (vertices x : ℕ) → edge? vertices x ≡ true → label_unit ≤ x
edge_least vertices x e = omega (arith, (test_yields (test_edge vertices x) e).label_low)

pub length_filled : (m : ℕ) (l : List ℕ) → length l ≤ m → length (filled m l) ≡ m
length_filled m l h = simp (length-append, length-replicate) (omega arith)

standing_zeros : (l : List ℕ) (k : ℕ) → ((x : ℕ) → x ∈ l → 1 ≤ x) → standing (l ++ replicate k 0) ≡ l
unfolding standing
standing_zeros [] zero f = refl
standing_zeros [] (suc k) f = refl
standing_zeros (x ∷ l) k f =
    rw (not_zero x (f x (Memᴰ.head refl))) (ap (λ (m : List ℕ). x ∷ m) (standing_zeros l k (λ z m. f z (Memᴰ.tail m))))

pub standing_filled : (m : ℕ) (l : List ℕ) → ((x : ℕ) → x ∈ l → 1 ≤ x) → standing (filled m l) ≡ l
standing_filled m l f = standing_zeros l (m - length l) f

-- what check 3 lets pass
pub edge_memory : (vertices : ℕ) (xs : List ℕ) → edge_memory? vertices xs ≡ true → (length xs ≤ most_edges) × Ordered (edge? vertices) 0 xs (standing xs)
unfolding edge_memory? rising_edges?
edge_memory vertices xs e =
    let (few, rise) = test_yields (test_and (test_le (length xs) most_edges) (test_T (rising? (edge? vertices) 0 xs))) e in
    (few, ordered (edge? vertices) 0 xs rise)

-- what stands is not zero
pub standing_some : (xs : List ℕ) {x : ℕ} → x ∈ standing xs → 1 ≤ x
unfolding standing
standing_some [] m = absurd (Memᴰ.not-nil m)
standing_some (y ∷ ys) {x} m = by_test (λ l. x ∈ l → 1 ≤ x) (test_eq y 0) (λ _ k. absurd (Memᴰ.not-nil k))
    (λ n k. ⊎_elim (λ e. omega (arith, n)) (λ j. standing_some ys j) (Memᴰ.cases_cons k)) m

-- memory that is all zero
pub standing_zeroed : (m : ℕ) → standing (replicate m 0) ≡ []
standing_zeroed m = standing_zeros [] m (λ x k. absurd (Memᴰ.not-nil k))

pub filled_memory : (vertices m : ℕ) (l : List ℕ) → length l ≤ m → m ≤ most_edges → Rising l → ((x : ℕ) → x ∈ l → edge? vertices x ≡ true)
    → edge_memory? vertices (filled m l) ≡ true
unfolding edge_memory? rising_edges?
filled_memory vertices m l h k s f =
    rw (length_filled m l h, test_true (test_le m most_edges) k)
    (rising_zeros (edge? vertices) (m - length l) 0 s (λ x e. (omega (arith, edge_least vertices x (f x e)), f x e)))
