-- `patterns::code` meets its contract. The invariant: the digits so far, with the labels that are left behind them, are the code. No label lessens it, so every step stays below 2 ^ 16.
use mathlib.Core.Path.{◌≡◌}
use lib.ListN.{drop}
use Rattle.model.specs.Patterns.{code, code_from}
use Rattle.patterns.proofs.code.Given as goal

abbrev pub invariant-loop-label : goal.invariant-loop-label
invariant-loop-label l = code_from l.digits (drop l.label-index l.pattern) ≡ code l.pattern
