use mathlib.Core.Path.{◌∙◌}
use native.Mathlib.Omega.{arith}
use borrow.Author.Tests.{tests}
use Rattle.std.proofs.Common.{rules, length, ◌≡◌}
use Rattle.std.proofs.lemmas.Grind.{common_steps}
use Rattle.std.proofs.lemmas.Iterator.{YieldsList-from_slice}
use Rattle.std.proofs.lemmas.Iterator.Search.{all_from_yields_List}
use Rattle.model.specs.Computed.Edges.{label?}
use Rattle.patterns.proofs.Keying.{none_keyed, labels_keyed}
use Rattle.patterns.proofs.is_keyed.Goals as goal

pub returns-then-is_empty : goal.returns-then-is_empty
returns-then-is_empty c = grind (arith, common_steps, none_keyed)

pub returns : goal.returns
returns c =
    let some : length c.args.pattern.now ≡ 0 → ⊥ = grind (arith, common_steps) in
    all_from_yields_List label? _ _ _ c.all.ensures.ran (YieldsList-from_slice c.args.pattern.now (cc)) (λ x b q k. search (rules, tests))
    ∙ labels_keyed _ _ some (omega arith)
