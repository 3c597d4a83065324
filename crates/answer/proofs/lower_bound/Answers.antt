-- `answer::lower_bound` meets its contract: rising numbers are parted by the test that they are below key.
use Rattle.std.proofs.Common.{rules, of_calls}
use Rattle.std.proofs.lemmas.Bool.{ltb-true, ltb-false}
use Rattle.std.proofs.lemmas.List.Sorted.{IsNonDecreasingBy-from_default, IsPartitionedBy-ltb, IsPartitionPoint-from_clause}
use Prim.Native.Nat.{ℕ, zero-le}
use native.Mathlib.Nat.{le_refl}
use lib.Dec.{ltb}
use Rattle.model.proofs.Lists.{rising_le}
use Rattle.answer.proofs.lower_bound.Goals as goal

pub returns : goal.returns
returns c =
    let xs = c.args.index.now in
    let up = IsNonDecreasingBy-from_default (λ (x : ℕ). x) xs 0 (rising_le c.requires) in
    let point =
    IsPartitionPoint-from_clause (λ x. ltb x c.args.key) xs _ c.partition_point.ensures.partitioned (IsPartitionedBy-ltb (λ (x : ℕ). x) xs c.args.key up)
    (λ a r f k. search (rules, of_calls)) in
    record {
      met = le_refl _;
      most = c.partition_point.ensures.bound;
      under = λ i h. ltb-true _ _ (point.0 i 0 zero-le h);
      above = λ i h k. ltb-false _ _ (point.1 i 0 h k);
    }
