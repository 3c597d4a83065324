-- `steps::fill_identity` meets its contract: the rows of the vertices below a are filled, and those of the others are empty.
use mathlib.Core.Path.{◌≡◌}
use Prim.Native.Nat.{◌<◌}
use Rattle.steps.specs.Filling.{FillsRows}
use Rattle.steps.proofs.fill_identity.Given as goal

abbrev pub invariant-loop-a : goal.invariant-loop-a
invariant-loop-a l = FillsRows l.base (λ v t. (v < l.a) × (t ≡ v)) l.initial.w l.w
