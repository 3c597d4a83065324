-- The edges turned round one by one.
use mathlib.Core.Path.{◌≡◌, sym, ap, ◌∙◌}
use mathlib.Core.List.Memᴰ
use mathlib.Core.List.{List, ◌++◌, map}
use Prim.Native.Nat.{ℕ, ◌%◌, ◌≤◌, ◌<◌, ◌^◌}
use native.Mathlib.Omega.{arith}
use lib.ListN.{length, get_or, take, replicate, length-append, length-map}
use lib.Seq.{take_at, length-take-le}
use Rattle.model.specs.Limits.{most_edges}
use Rattle.model.specs.Lists.{◌∈◌}
use Rattle.model.specs.Edges.{from_of}
use Rattle.model.specs.Turned.{turned}
use Rattle.model.proofs.Lists.{get_d_in, get_d_map, rising_lt}
use Rattle.model.proofs.Reversal.{turned_turned}
use Rattle.memory.specs.Widths.{Narrow}
use Rattle.sort.specs.Order.{low_bits, Distinct, HalfSorted, Sorts}
use Rattle.sort.proofs.Apart.{rising_distinct, map_distinct}
use Rattle.backward.specs.Turning.{Turnable}

module _ {edges : List ℕ} (h : Turnable edges) where
  pub turned_distinct : Distinct (map turned edges)
  turned_distinct =
      map_distinct turned (rising_distinct h.rises)
      (λ x y a b e. sym (turned_turned x (h.starts x a)) ∙ ap turned e ∙ turned_turned y (h.starts y b))

  pub turned_small : (y : ℕ) → y ∈ map turned edges → y < 2 ^ 20
  turned_small y m = let (x, k, e) = Memᴰ.of_map turned edges m in omega (arith, e, h.starts x k)

  -- the lowest bits of a turned edge are where it started
  turned_low : (i : ℕ) → i < length edges → get_or (map turned edges) i 0 % 2 ^ low_bits ≡ from_of (get_or edges i 0)
  turned_low i k = rw (get_d_map turned edges i k) (omega (arith, h.starts (get_or edges i 0) (get_d_in edges i k)))

  pub turned_half : HalfSorted (map turned edges)
  turned_half = record {
    small = turned_small;
    low = λ i j a b.
        let k : j < length edges = omega (arith, length-map edges turned) in
        omega (arith, turned_low i (omega arith), turned_low j k, rising_lt h.rises i j a k);
  }

-- as many edges stand in front of an array of zeros as there are
pub array_front : (edges : List ℕ) → length edges ≤ most_edges → length (take (length edges) (replicate {A = ℕ} most_edges 0)) ≡ length edges
array_front edges few = length-take-le (length edges) (replicate most_edges 0) few

pub sorts_as : {xs xs' ys : List ℕ} → xs ≡ xs' → Sorts xs ys → Sorts xs' ys
sorts_as e s = rw e at s

-- sorted at the front of memory, and the first k of it narrowed
module _ {edges sorted : List ℕ} (h : Turnable edges) (s : Sorts (map turned edges) sorted) (rest : List ℕ) {k : ℕ} (e : k ≡ length edges) where
  sorted_long : length sorted ≡ k
  sorted_long = s.size ∙ length-map edges turned ∙ sym e

  sorted_front : take k (sorted ++ rest) ≡ sorted
  sorted_front = take_at sorted rest k sorted_long

  pub narrow_room : k ≤ length (sorted ++ rest)
  narrow_room = omega (arith, length-append sorted rest, sorted_long)

  pub narrow_fits : Narrow (take k (sorted ++ rest))
  narrow_fits x m = omega (arith, turned_small h x ((s.same x).0 (rw sorted_front at m)))

  pub narrowed : {out : List ℕ} (zeros : List ℕ) → out ≡ take k (sorted ++ rest) → Sorts (map turned edges) (take (length edges) (out ++ zeros))
  narrowed {out} zeros f =
      let same : out ≡ sorted = f ∙ sorted_front in
      rw (take_at out zeros (length edges) (ap length same ∙ sorted_long ∙ e), same) s
