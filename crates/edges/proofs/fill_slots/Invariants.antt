-- `edges::fill_slots` meets its contract: the slots of the vertices below v are written, and no edge before slot i starts at v or above.
use Prim.Native.Nat.{◌*◌}
use Rattle.model.specs.Limits.{from_unit}
use Rattle.edges.specs.Slots.{Under, Starts}
use Rattle.edges.proofs.fill_slots.Given as goal

abbrev pub invariant-loop-v : goal.invariant-loop-v
invariant-loop-v l = Starts l.edges l.slots × Under l.edges (l.v * from_unit) l.first
