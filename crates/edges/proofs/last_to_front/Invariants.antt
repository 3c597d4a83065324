-- `edges::last_to_front` meets its contract.
use mathlib.Core.Path.{◌≡◌}
use mathlib.Core.List.{◌∷◌}
use Prim.Native.Nat.{◌-◌}
use lib.ListN.{length, get_or}
use Rattle.memory.proofs.Mix.{Mixed}
use Rattle.edges.proofs.Turned.{led}
use Rattle.edges.proofs.last_to_front.Given as goal

abbrev pub invariant-loop-i : goal.invariant-loop-i
invariant-loop-i l =
    Mixed (led l.initial.part) l.initial.part l.part l.i
    × (l.moved ≡ get_or (get_or l.initial.part (length l.initial.part - 1) 0 ∷ l.initial.part) l.i 0)
