-- `query_checks::is_lacking` meets its contract. The invariant: a label from here on has total 0 if one of the pattern has.
use mathlib.Core.Path.{◌≡◌}
use lib.ListN.{drop}
use Rattle.calls.specs.Query.{lacking?}
use Rattle.query_checks.proofs.is_lacking.Given as goal

abbrev pub invariant-loop-label : goal.invariant-loop-label
invariant-loop-label l = lacking? l.totals (drop l.label-index l.pattern) ≡ lacking? l.totals l.pattern
