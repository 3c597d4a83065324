-- `codes::repeats_by` meets its contract. The invariant: the writings that remain decide.
use Prim.Native.Nat.{◌+◌, ◌*◌}
use Rattle.codes.proofs.Codes.{Trying}
use Rattle.codes.proofs.repeats_by.Given as goal

abbrev pub invariant-loop-again : goal.invariant-loop-again
invariant-loop-again l = Trying l.code l.d l.unit l.word ((l._again + 1) * l.d)
