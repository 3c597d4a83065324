use mathlib.Core.Path.{◌∙◌}
use borrow.Author.Tests.{tests}
use Rattle.std.proofs.Common.{rules}
use Rattle.std.proofs.lemmas.Iterator.{YieldsList-from_slice}
use Rattle.std.proofs.lemmas.Iterator.Search.{all_from_yields_List}
use Rattle.memory.proofs.Numbers.{zero_slot?, zeros_are}
use Rattle.memory.proofs.all_zero.Goals as goal

pub returns : goal.returns
returns g c =
    let t = g.T.Number in
    let laws = g.met.T.Number in
    all_from_yields_List (zero_slot? t.value) _ _ _ c.all.ensures.ran (YieldsList-from_slice c.args.slots.now (cc)) (λ x b q k. search (rules, tests))
    ∙ zeros_are t.value t.numbers laws.of_none laws.of_more c.args.slots.now
