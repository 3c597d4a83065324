use mathlib.Core.Path.{refl, ◌∙◌}
use native.Mathlib.Omega.{arith}
use Rattle.answer.proofs.Joining.{joining_start, joining_on, joining_next, joining_past, joining_none, joining_found}
use Rattle.answer.proofs.join.Goals as goal
use Rattle.answer.proofs.join.Goals.{then-x-code+else-loop-j-test, then-x-code+then-loop-j-test+else-x-z+then-x-z-2, else-x-code}

pub join-init : goal.join-init
join-init c = (omega arith, joining_start _ _ _, refl)

pub loop-j-init : goal.loop-j-init
loop-j-init c = let v = c.join.invariant in (v.0, v.1, refl)

pub loop-j-preserved : goal.loop-j-preserved
loop-j-preserved c =
    let v = c.loop-j.invariant in
    (omega arith, joining_on v.1 c.requires.out_rises (omega arith), v.2)

pub join-preserved : goal.join-preserved
join-preserved c =
    let inside = c.join-test.true in
    let v = c.join.invariant in
    elim c.if-x-code.branch [
      | then-x-code+else-loop-j-test w ↦
          let u = w.loop-j.invariant in
          (omega arith, rw w.j-is (joining_next u.1 inside (λ q a b m. omega arith)), w.found-is ∙ u.2 ∙ v.2)
      | then-x-code+then-loop-j-test+else-x-z+then-x-z-2 w ↦
          let u = w.loop-j.invariant in
          (omega arith, rw w.j-is (joining_past u.1 inside c.requires.into_rises w.if-x-z-2.true), w.found-is ∙ u.2 ∙ v.2)
      | else-x-code w ↦
          (omega arith, rw w.j-is (joining_next v.1 inside (λ q a b m. w.if-x-code.false (omega (arith, m.coded)))), w.found-is ∙ v.2)
    ]

pub returns-after-join : goal.returns-after-join
returns-after-join c = let v = c.join.invariant in rw v.2 (joining_none v.1 c.join-test.false)

pub returns-then-x-z : goal.returns-then-x-z
returns-then-x-z c =
    joining_found (record {
      p = _;
      q = _;
      p_inside = c.join-test.true;
      q_inside = c.loop-j-test.true;
      match = record { same = c.if-x-z.true; coded = omega (arith, c.if-x-code.true) };
    })
