-- `codes::are_labels` meets its contract. The invariant: the digits of the rest decide.
use Prim.Native.Nat.{◌-◌}
use Rattle.model.specs.Limits.{code_digits}
use Rattle.codes.proofs.Codes.{Left}
use Rattle.codes.proofs.are_labels.Given as goal

abbrev pub invariant-loop-digit : goal.invariant-loop-digit
invariant-loop-digit l = Left l.longest l.code l.length (code_digits - l._digit) l.rest
