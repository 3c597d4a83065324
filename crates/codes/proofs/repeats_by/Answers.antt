use Rattle.std.proofs.Common.{rules, ◌≡◌, ◌+◌, ◌*◌, ◌≤◌}
use native.Mathlib.Nat.{suc-mul, le-div_iff_mul-le, div-lt_iff_lt-mul}
use native.Mathlib.Omega.{arith}
use Rattle.model.specs.Limits.{code_digits}
use Rattle.codes.proofs.Codes.{unit_some, trying_start, trying_fits, trying_found, trying_more, trying_none}
use Rattle.codes.proofs.repeats_by.Goals as goal
use Rattle.codes.proofs.repeats_by.Goals.{In-loop-again}

-- one writing more is no longer than a code
inside : (c : In-loop-again) → (c.loop-again._again + 1) * c.args.d ≤ code_digits
inside c = (le-div_iff_mul-le c.requires.some).0 (omega arith)

pub nonzero_rem-last : goal.nonzero_rem-last
nonzero_rem-last c = unit_some c.requires

pub loop-again-init : goal.loop-again-init
loop-again-init c = let twice : 2 * c.args.d ≡ c.args.d + c.args.d = omega arith in rw twice (trying_start c.requires)

pub overflow_mul-word : goal.overflow_mul-word
overflow_mul-word c = let small = trying_fits c.requires c.loop-again.invariant (inside (goal.at.overflow_mul-word c).In-loop-again) in search rules

pub overflow_add-word : goal.overflow_add-word
overflow_add-word c = let small = trying_fits c.requires c.loop-again.invariant (inside (goal.at.overflow_add-word c).In-loop-again) in search rules

pub returns-then-word-code : goal.returns-then-word-code
returns-then-word-code c = trying_found c.requires c.loop-again.invariant (inside (goal.at.returns-then-word-code c).In-loop-again) c.if-word-code.true

pub loop-again-preserved : goal.loop-again-preserved
loop-again-preserved c =
    let k = c.loop-again._again in
    let more : (k + 1 + 1) * c.args.d ≡ (k + 1) * c.args.d + c.args.d = omega (arith, suc-mul (k + 1) c.args.d) in
    rw more (trying_more c.requires c.loop-again.invariant c.if-word-code.false)

pub returns : goal.returns
returns c = trying_none c.requires c.loop-again.invariant ((div-lt_iff_lt-mul c.requires.some).0 (omega arith))
