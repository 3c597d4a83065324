use Rattle.std.proofs.Common.{rules}
use mathlib.Core.Path.{sym, ap}
use mathlib.Core.Bool.{not}
use native.Mathlib.Omega.{arith}
use Rattle.codes.proofs.Codes.{repeats_own, unrepeated_start, unrepeated_small, unrepeated_more, unrepeated_end}
use Rattle.codes.proofs.repeats.Goals as goal

pub loop-d-init : goal.loop-d-init
loop-d-init c = unrepeated_start _

pub overflow_add-d : goal.overflow_add-d
overflow_add-d c = let m = c.loop-d.invariant in search rules

pub repeats_by-requires : goal.repeats_by-requires
repeats_by-requires c =
    let m = c.loop-d.invariant in
    record { spelled = c.requires; some = m.some; twice = omega (arith, c.loop-d-test.true); is = m.is }

pub returns-then-repeats_by : goal.returns-then-repeats_by
returns-then-repeats_by c =
    sym (ap not (repeats_own c.requires.keyed.long (c.repeats_by.ensures.yields c.if-repeats_by.true) c.loop-d.invariant.some))

pub overflow_add-d-in-loop-d : goal.overflow_add-d-in-loop-d
overflow_add-d-in-loop-d c = let m = c.loop-d.invariant in search rules

pub overflow_mul-unit : goal.overflow_mul-unit
overflow_mul-unit c = let small = unrepeated_small c.loop-d.invariant in search rules

pub loop-d-smaller : goal.loop-d-smaller
loop-d-smaller c = let m = c.loop-d.invariant in search rules

pub loop-d-preserved : goal.loop-d-preserved
loop-d-preserved c = unrepeated_more c.loop-d.invariant (omega (arith, c.loop-d-test.true)) (c.repeats_by.ensures.misses c.if-repeats_by.false)

pub returns : goal.returns
returns c = sym (ap not (unrepeated_end c.loop-d.invariant (omega (arith, c.loop-d-test.false)) c.requires))
