-- `answer::answer` meets its contract: the two numbers that are looked up are the entries', and the two parts are the owners' lists.
use mathlib.Core.Path.{sym, ◌∙◌}
use Prim.Native.Nat.{◌<◌}
use native.Mathlib.Nat.{le_refl}
use native.Mathlib.Omega.{arith}
use Rattle.model.specs.Limits.{most_longest, hub_unit}
use Rattle.model.proofs.Patterns.{code_below}
use Rattle.answer.specs.declared.Side.TheVariants.{Out, In}
use Rattle.answer.proofs.Answering.{list_rises, says_target, says_source, says_join}
use Rattle.answer.proofs.answer.Goals as goal
use Rattle.answer.proofs.answer.Goals.{After-code-code, then-has, else-has}

small : (c : After-code-code) → c.code-code.result < hub_unit
small c = omega (arith, c.code-code.ensures, code_below (le_refl most_longest) c.requires.keyed)

pub number-requires : goal.number-requires
number-requires c = let h = small (goal.at.number-requires c).After-code-code in (c.requires.start_small, (c.requires.destination_small, h))

pub number-requires-else-has : goal.number-requires-else-has
number-requires-else-has c =
    let h = small (goal.at.number-requires-else-has c).After-code-code in (c.requires.destination_small, (c.requires.start_small, h))

pub join-requires : goal.join-requires
join-requires c = record { out_rises = list_rises Out _ c.list.ensures; into_rises = list_rises In _ c.list-else-has-2.ensures }

pub returns-then-has-2 : goal.returns-then-has-2
returns-then-has-2 c =
    rw c.if-has-2.true
    (elim c.if-has.branch [
      | then-has w ↦ says_target _ _ _ _ _ c.code-code.ensures (rw c.number.ensures at (sym c.has.ensures ∙ w.if-has.true))
      | else-has w ↦
          says_source _ _ _ _ _ c.code-code.ensures (rw w.number-else-has.ensures at (sym w.has-else-has.ensures ∙ sym w.value-is ∙ c.if-has-2.true))
    ])

pub returns-else-has-2 : goal.returns-else-has-2
returns-else-has-2 c =
    elim c.if-has.branch [
      | then-has w ↦ absurd (cc)
      | else-has w ↦
          says_join _ _ _ _ _ c.code-code.ensures c.requires.keyed c.list.ensures c.list-else-has-2.ensures
          (rw c.number.ensures at (sym c.has.ensures ∙ w.if-has.false))
          (rw w.number-else-has.ensures at (sym w.has-else-has.ensures ∙ sym w.value-is ∙ c.if-has-2.false)) c.join.ensures
    ]
