-- `codes::repeats` meets its contract. The invariant: no number of digits below d repeats.
use Prim.Native.Nat.{◌-◌}
use Rattle.model.specs.Limits.{code_digits}
use Rattle.codes.proofs.Codes.{Unrepeated}
use Rattle.codes.proofs.repeats.Given as goal

abbrev pub invariant-loop-d : goal.invariant-loop-d
invariant-loop-d l = Unrepeated l.code l.d l.unit

abbrev pub decreases-loop-d : goal.decreases-loop-d
decreases-loop-d l = code_digits - l.d
