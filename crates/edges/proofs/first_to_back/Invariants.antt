-- `edges::first_to_back` meets its contract.
use mathlib.Core.Path.{◌≡◌}
use mathlib.Core.List.{[], ◌∷◌, ◌++◌}
use lib.ListN.{get_or}
use Rattle.memory.proofs.Mix.{Mixed}
use Rattle.edges.proofs.Turned.{tailed}
use Rattle.edges.proofs.first_to_back.Given as goal

abbrev pub invariant-loop-i : goal.invariant-loop-i
invariant-loop-i l =
    Mixed l.initial.part (tailed l.initial.part) l.part l.i
    × (l.moved ≡ get_or (l.initial.part ++ get_or l.initial.part 0 0 ∷ []) l.i 0)
