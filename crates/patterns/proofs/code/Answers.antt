use mathlib.Core.Path.{◌≡◌, ◌∙◌}
use Prim.Native.Nat.{ℕ, ◌<◌, ◌+◌, ◌*◌}
use native.Mathlib.Nat.{le_refl}
use native.Mathlib.Omega.{arith}
use lib.ListN.{drop, get_or}
use Rattle.model.specs.Limits.{hub_unit, most_longest}
use Rattle.model.specs.Patterns.{code, code_from}
use Rattle.model.proofs.Patterns.{code_below, code_ge}
use Rattle.patterns.proofs.Coding.{code_more, code_end}
use Rattle.patterns.proofs.code.Goals as goal
use Rattle.patterns.proofs.code.Goals.{In-loop-label}

-- the next digit keeps the code
module _ (c : In-loop-label) where
  abbrev next : ℕ
  next = c.loop-label.digits * 16 + get_or c.args.pattern.now c.loop-label.label-index 0

  turn : code_from next (drop (c.loop-label.label-index + 1) c.args.pattern.now) ≡ code c.args.pattern.now
  turn = code_more c.loop-label.digits c.loop-label.label-index c.args.pattern.now (omega arith) ∙ c.loop-label.invariant

  small : next < hub_unit
  small = omega (arith, code_ge next (drop (c.loop-label.label-index + 1) c.args.pattern.now), turn, code_below (le_refl most_longest) c.requires)

pub overflow_mul-digits : goal.overflow_mul-digits
overflow_mul-digits c = omega (arith, small (goal.at.overflow_mul-digits c).In-loop-label)

pub overflow_add-digits : goal.overflow_add-digits
overflow_add-digits c = omega (arith, small (goal.at.overflow_add-digits c).In-loop-label)

pub loop-label-preserved : goal.loop-label-preserved
loop-label-preserved c = rw c.from.ensures (turn (goal.at.loop-label-preserved c).In-loop-label)

pub returns : goal.returns
returns c = code_end _ (omega arith) c.loop-label.invariant
