-- The ledger's own count of the legs of each colour comes to the totals of its standing legs.
use mathlib.Core.Path.{◌≡◌, ap}
use mathlib.Core.List.Memᴰ
use mathlib.Core.List.{List, map}
use Prim.Native.Nat.{ℕ, ◌*◌, ◌/◌, ◌<◌}
use native.Mathlib.Omega.{arith}
use lib.Dec.{eqb}
use lib.ListN.{length}
use Rattle.model.specs.Limits.{most_vertices, from_unit, label_unit}
use Rattle.model.specs.Lists.{◌∈◌, keep, mem?, up_to, Rising}
use Rattle.model.specs.Edges.{edge_number, from_of, label_of, to_of, total_of, totals_of}
use Rattle.model.proofs.Tests.{test_mem, test_eq}
use Rattle.model.proofs.Lists.{keep_in, keep_out, up_to_lem, below, spread_in, spread_out, rising_from, sorted_keep, sorted_map, sorted_spread}
use Rattle.model.proofs.Counting.{rising_same}
use Rattle.model.proofs.Totals.{totals_as}
use Rattle.demands.specs.Ledger.{rising, labelled, tally}
use Rattle.demands.proofs.Rising.{rising_rises, rising_out, rising_below, rising_in}

module _ (c : ℕ) (small : c < from_unit / label_unit) where
  -- the numbers of the edges with label c that start at a, and what each is
  abbrev starting : ℕ → List ℕ
  starting a = map (λ b. edge_number a c b) (up_to most_vertices)

  starting_out : (a : ℕ) {x : ℕ} → x ∈ starting a → (b : ℕ) × (b < most_vertices) × (edge_number a c b ≡ x)
  starting_out a m = let (b, k, e) = Memᴰ.of_map (λ b. edge_number a c b) (up_to most_vertices) m in (b, below k, e)

  -- the ledger's list of the edges with label c rises, and has all numbers below 256 × 4,096 with that label
  labelled_rises : Rising (labelled c)
  unfolding labelled
  labelled_rises = sorted_spread starting (rising_from 0 most_vertices)
      (λ a m. sorted_map (λ b. edge_number a c b) (λ x z l. omega arith) (rising_from 0 most_vertices))
      (λ a d x z l i j m n. let (p, h, e) = starting_out a m in let (q, k, f) = starting_out d n in omega arith)

  labelled_out : {x : ℕ} → x ∈ labelled c → (x < most_vertices * from_unit) × (label_of x ≡ c)
  unfolding labelled
  labelled_out m = let (a, i, n) = spread_out starting (up_to most_vertices) m in let (b, h, e) = starting_out a n in omega (arith, below i)

  labelled_in : {x : ℕ} → x < most_vertices * from_unit → label_of x ≡ c → x ∈ labelled c
  unfolding labelled
  labelled_in {x} h e =
      let is : x ≡ edge_number (from_of x) c (to_of x) = omega arith in
      spread_in starting (up_to_lem (omega arith)) (Memᴰ.cast is (Memᴰ.map (λ b. edge_number (from_of x) c b) (up_to_lem (omega arith))))

  -- the edges with label c that are in the set are the standing legs with label c
  same : (edges : List ℕ) → keep (λ x. mem? x edges) (labelled c) ≡ keep (λ x. eqb (label_of x) c) (rising edges)
  same edges = rising_same (sorted_keep _ labelled_rises) (sorted_keep _ (rising_rises edges)) there back
    where
      there : (x : ℕ) → x ∈ keep (λ x. mem? x edges) (labelled c) → x ∈ keep (λ x. eqb (label_of x) c) (rising edges)
      there x m =
          let (k, t) = keep_out (λ x. mem? x edges) (labelled c) m in
          let (h, e) = labelled_out k in
          keep_in _ (rising_in edges h ((test_mem x edges).yields t)) ((test_eq (label_of x) c).passes e)

      back : (x : ℕ) → x ∈ keep (λ x. eqb (label_of x) c) (rising edges) → x ∈ keep (λ x. mem? x edges) (labelled c)
      back x m =
          let (k, t) = keep_out (λ x. eqb (label_of x) c) (rising edges) m in
          keep_in _ (labelled_in (rising_below edges k) ((test_eq (label_of x) c).yields t)) ((test_mem x edges).passes (rising_out edges k))

-- the ledger's own count is the totals of its standing legs
pub tally_is : (edges : List ℕ) → tally edges ≡ totals_of (rising edges)
unfolding tally total_of
tally_is edges = totals_as (rising edges) (λ c low high. ap length (same c (omega arith) edges))
