-- Passed checks as a tuple, to be taken apart in one line.
use mathlib.Core.Path.{◌≡◌}
use mathlib.Core.Bool.{true}
use mathlib.Core.List.{List, [], ◌∷◌}
use lib.Dec.{T}
use Rattle.calls.specs.Checks.{Check, first_refusal}
use Rattle.calls.proofs.Checks.{numbered?, Passed, done, also, passes}

abbrev pub Passing : List Check → Type 0
Passing [] = Unit {0}
Passing (c ∷ l) = (c.1 ≡ true) × Passing l

each : {l : List Check} → Passed l → Passing l
each done = tt
each (also e p) = (e, each p)

pub passing : (l : List Check) → T (numbered? l) → first_refusal l ≡ 0 → Passing l
passing l q e = each (passes l q e)
