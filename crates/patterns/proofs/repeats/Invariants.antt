-- `patterns::repeats` meets its contract. The invariant: each label from index d up to i is the one d before it.
use Prim.Native.Nat.{◌≤◌}
use Rattle.model.proofs.Lists.{Below}
use Rattle.patterns.proofs.Repeating.{Back}
use Rattle.patterns.proofs.repeats.Given as goal

abbrev pub invariant-loop-i : goal.invariant-loop-i
invariant-loop-i l = (l.d ≤ l.i) × Below (Back l.pattern l.d) l.i
