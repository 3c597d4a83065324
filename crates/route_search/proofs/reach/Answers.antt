-- `route_search::reach` meets its contract: a state that is queued adds nothing, and for another there is room.
use mathlib.Core.Path.{refl}
use native.Mathlib.Numerals.{add-one}
use native.Mathlib.Omega.{arith}
use Rattle.route_search.proofs.reach.Goals as goal

pub returns : goal.returns
returns c = record { old = λ d. absurd (d (omega arith)); new = λ e. (rw c.number.ensures refl, add-one _) }
