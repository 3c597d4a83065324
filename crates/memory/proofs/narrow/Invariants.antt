-- `memory::narrow` meets its contract. The invariant: the first i slots are copied, and the others as they came.
use lib.ListN.{length, take}
use Rattle.memory.proofs.Mix.{Mixed}
use Rattle.memory.proofs.narrow.Given as goal

abbrev pub invariant-loop-i : goal.invariant-loop-i
invariant-loop-i l = Mixed (take (length l.initial.to) l.from) l.initial.to l.to l.i
