-- `backward::turn_each` meets its contract. The invariant: the first i edges are turned.
use mathlib.Core.List.{map}
use Rattle.model.specs.Turned.{turned}
use Rattle.memory.proofs.Mix.{Mixed}
use Rattle.backward.proofs.turn_each.Given as goal

abbrev pub invariant-loop-i : goal.invariant-loop-i
invariant-loop-i l = Mixed (map turned l.edges) l.initial.to l.to l.i
