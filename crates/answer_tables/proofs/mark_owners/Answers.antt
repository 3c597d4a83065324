use mathlib.Core.Path.{refl}
use native.Mathlib.Omega.{arith}
use Rattle.model.proofs.Tests.{test_true, test_false, test_eq}
use Rattle.answer_tables.proofs.Marking.{marking_pass, marking_mark, marking_all}
use Rattle.answer_tables.proofs.mark_owners.Goals as goal
use Rattle.answer_tables.proofs.mark_owners.Goals.{then-entry-code+then-hubs-entry, else-entry-code, else-entry-code-via-then-entry-code+else-hubs-entry, else-entry-code-via-else-entry-code}

pub loop-x-preserved : goal.loop-x-preserved
loop-x-preserved c =
    let g = c.loop-x.invariant in
    let inside = c.loop-x-test.true in
    elim c.if-entry-code.branch [
      | then-entry-code+then-hubs-entry w ↦
          marking_mark g inside
          (rw (test_true (test_eq _ _) (rw c.from-entry.ensures at w.if-entry-code.true)) (rw c.from-entry.ensures at w.if-hubs-entry.true))
          (rw c.from-entry.ensures at w.marks-is) (omega (arith, c.if-entry-code.array_long))
      | else-entry-code w ↦
          rw w.marks-is (marking_pass g inside
          (elim w.else-entry-code.branch [
            | else-entry-code-via-then-entry-code+else-hubs-entry u ↦
                rw (test_true (test_eq _ _) (rw c.from-entry.ensures at u.if-entry-code.true)) (rw c.from-entry.ensures at u.if-hubs-entry.false)
            | else-entry-code-via-else-entry-code u ↦ rw (test_false (test_eq _ _) (rw c.from-entry.ensures at u.if-entry-code.false)) refl
          ]))
    ]

pub returns : goal.returns
returns c = marking_all c.loop-x.invariant c.loop-x-test.false
