-- `size::measure` meets its contract: the memory made for the card can be measured in, and it is the definition's.
use Prim.Native.Nat.{ℕ}
use native.Mathlib.Omega.{arith}
use lib.ListN.{length-replicate}
use Rattle.model.specs.Limits.{most_edges}
use Rattle.size.specs.Sizing.{sized_slots}
use Rattle.size.proofs.measure.Goals as goal

pub measure-requires : goal.measure-requires
measure-requires c =
    record { edges_few = omega (arith, length-replicate {A = ℕ} most_edges 0); index_few = omega (arith, length-replicate {A = ℕ} sized_slots 0) }
