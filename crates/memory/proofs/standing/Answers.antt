use mathlib.Core.Path.{sym, ◌∙◌}
use borrow.Author.Tests.{tests}
use Rattle.std.proofs.Common.{rules}
use Rattle.std.proofs.lemmas.Iterator.{YieldsList-from_slice}
use Rattle.std.proofs.lemmas.Iterator.Search.{position_from_yields_List}
use Rattle.memory.proofs.Numbers.{zero_slot?, standing_are, first_or_length}
use Rattle.memory.proofs.standing.Goals as goal

pub returns : goal.returns
returns g c =
    let t = g.T.Number in
    let laws = g.met.T.Number in
    let test = zero_slot? t.value in
    let first = position_from_yields_List test _ _ c.position.result c.position.ensures.ran (YieldsList-from_slice c.args.slots.now (cc)) (λ x b q k. search (rules, tests)) in
    c.unwrap_or.ensures ∙ first_or_length test c.args.slots.now c.position.result first ∙ sym (standing_are t.value t.numbers laws.of_none laws.of_more c.args.slots.now)
