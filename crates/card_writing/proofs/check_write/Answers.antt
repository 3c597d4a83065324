-- `card_writing::check_write` meets its contract: the first check that does not pass, or all have passed.
use Rattle.std.proofs.Common.{rules, Err}
use mathlib.Core.Path.{◌≡◌}
use Prim.Native.Nat.{◌≤◌}
use native.Mathlib.Omega.{arith}
use Rattle.model.specs.Limits.{most_edges}
use Rattle.calls.specs.Card.{write_refusal}
use Rattle.checks.proofs.LayoutChecks.{layout_stop, layout_memory}
use Rattle.card_writing.proofs.WriteChecks.{write_short, writes}
use Rattle.card_writing.proofs.check_write.Goals as goal
use Rattle.card_writing.proofs.check_write.Goals.{In_ok-n}

-- the checks 1 2 3 have passed
few : (c : In_ok-n) → c.in_ok-n.n ≤ most_edges
few c = let s = layout_memory c.in_ok-n.ensures in omega (arith, s.within, s.slots)

pub returns-in_err-n : goal.returns-in_err-n
unfolding write_refusal
returns-in_err-n c =
    let k : c.from_residual.result ≡ Err c.in_err-n.field-0.0 = search rules in
    rw k (layout_stop _ _ _ _ c.in_err-n.field-0.0 c.in_err-n.ensures)

pub overflow_mul-n : goal.overflow_mul-n
overflow_mul-n c = omega (arith, few (goal.at.overflow_mul-n c).In_ok-n)

pub overflow_add-n : goal.overflow_add-n
overflow_add-n c = omega (arith, few (goal.at.overflow_add-n c).In_ok-n)

pub returns-then-output-n : goal.returns-then-output-n
returns-then-output-n c = write_short _ _ c.in_ok-n.ensures (omega (arith, c.if-output-n.true))

pub returns : goal.returns
returns c = writes _ _ c.in_ok-n.ensures (omega (arith, c.if-output-n.false))
