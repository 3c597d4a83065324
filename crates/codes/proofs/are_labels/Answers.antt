use mathlib.Core.Path.{◌≡◌, sym, ◌∙◌}
use Prim.Native.Nat.{◌+◌, ◌-◌}
use native.Mathlib.Omega.{arith}
use borrow.Author.Tests.{le-leb, lt-leb}
use Rattle.model.specs.Limits.{code_digits}
use Rattle.codes.proofs.Codes.{left_start, left_more, left_other, left_end}
use Rattle.codes.proofs.are_labels.Goals as goal

pub loop-digit-init : goal.loop-digit-init
loop-digit-init c = left_start _ _ c.requires

pub returns-then-rest-some : goal.returns-then-rest-some
returns-then-rest-some c = left_other c.loop-digit.invariant (omega arith) (omega (arith, c.if-rest-some.true))

pub loop-digit-preserved : goal.loop-digit-preserved
loop-digit-preserved c =
    let next : code_digits - (c.loop-digit._digit + 1) ≡ code_digits - c.loop-digit._digit - 1 = omega arith in
    rw next (left_more c.loop-digit.invariant (omega arith) (omega (arith, c.if-rest-some.false)))

pub returns-then-length-ge1 : goal.returns-then-length-ge1
returns-then-length-ge1 c =
    rw c.from.ensures (sym (left_end c.loop-digit.invariant (omega arith) ∙ simp (le-leb _ _ c.if-length-ge1.true)))

pub returns-else-length-ge1 : goal.returns-else-length-ge1
returns-else-length-ge1 c =
    let none = lt-leb 1 c.loop-digit.length c.if-length-ge1.false in
    none ∙ sym (left_end c.loop-digit.invariant (omega arith) ∙ simp none)
