use mathlib.Core.Path.{◌∙◌}
use Prim.Native.Nat.{◌+◌, ◌<◌}
use native.Mathlib.Omega.{arith}
use lib.ListN.{drop}
use Rattle.model.specs.Limits.{table_size}
use Rattle.model.specs.Lists.{from}
use Rattle.model.specs.Computed.Lists.{spread}
use Rattle.model.specs.Computed.Patterns.{words, keyed_patterns}
use Rattle.model.specs.Computed.Table.{shorter}
use Rattle.lookup.specs.Table.{starts_right?}
use Rattle.lookup.proofs.Table.{place_of, place_inside}
use Rattle.lookup.proofs.Placing.{ordinal_more, ordinal_end, ordinal_ge}
use Rattle.lookup.proofs.place.Goals as goal
use Rattle.lookup.proofs.place.Goals.{At-loop-i}

-- the start and the digits so far lie in the table
small : (c : At-loop-i) → c.start_of-start.result + c.loop-i.digits < table_size
small c =
    let l = c.args.pattern.now in
    omega (arith, ordinal_ge c.loop-i.digits (drop c.loop-i.i l), c.loop-i.invariant, c.start_of-start.ensures, place_of l, place_inside l c.requires)

pub start_of-start-requires : goal.start_of-start-requires
unfolding from spread words keyed_patterns shorter starts_right?
start_of-start-requires c = let p = c.requires in (tt, (p.long, p.short))

pub overflow_mul-digits : goal.overflow_mul-digits
overflow_mul-digits c = omega (arith, small (goal.at.overflow_mul-digits c).At-loop-i)

pub overflow_add-digits : goal.overflow_add-digits
overflow_add-digits c = omega (arith, small (goal.at.overflow_add-digits c).At-loop-i, c.digit.ensures.1)

-- the next digit keeps the ordinal
pub loop-i-preserved : goal.loop-i-preserved
loop-i-preserved c =
    rw c.digit.ensures.0 (ordinal_more c.loop-i.digits c.loop-i.i c.args.pattern.now (omega arith) ∙ c.loop-i.invariant)

pub overflow_add-result : goal.overflow_add-result
overflow_add-result c = omega (arith, small (goal.at.overflow_add-result c).At-loop-i)

pub returns : goal.returns
returns c =
    let l = c.args.pattern.now in
    let digits = ordinal_end {i = c.loop-i.i} l (omega arith) c.loop-i.invariant in
    omega (arith, c.start_of-start.ensures, digits, place_of l)
