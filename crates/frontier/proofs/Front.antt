-- The front of work memory that a search uses, or its marks alone: zeroed, it is zeros.
use mathlib.Core.Path.{◌≡◌, ap, ◌∙◌}
use mathlib.Core.List.{List, ◌++◌}
use Prim.Native.Nat.{ℕ, ◌≤◌}
use native.Mathlib.Omega.{arith}
use lib.ListN.{length, take, drop, length-replicate}
use Rattle.model.specs.Limits.{least_work}
use Rattle.model.specs.Lists.{zeroed}
use Rattle.model.specs.Computed.Levels.{most_states}
use Rattle.memory.proofs.Parts.{zeros_front, zeros_long, zeros_first}
use Rattle.frontier.specs.Work.{Unmarked}

-- the front that the route's search uses, zeroed
pub front_cleared : (w : List ℕ) {front : List ℕ} → least_work ≤ length w → front ≡ zeroed (take least_work w) → (least_work ≤ length front) × (front ≡ zeroed front)
front_cleared w {front} long cleared =
    let size : length front ≡ least_work = ap length (zeros_front w least_work long cleared) ∙ length-replicate {A = ℕ} least_work 0 in
    (omega arith, rw size (zeros_front w least_work long cleared))

-- the marks alone zeroed: no state is marked then, and memory is as long as it was
module _ (w : List ℕ) {front : List ℕ} (long : least_work ≤ length w) (cleared : front ≡ zeroed (take most_states w)) where
  room : most_states ≤ length w
  room = omega (arith, long)

  pub marks_long : length (front ++ drop most_states w) ≡ length w
  marks_long = zeros_long w most_states room cleared

  pub marks_cleared : Unmarked (front ++ drop most_states w)
  marks_cleared = record { long = omega (arith, long, marks_long); zeros = zeros_first w most_states room cleared }
