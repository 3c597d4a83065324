-- `rlc_c::header_in` meets its contract: the first word is the vertices, the second the longest pattern, and the others are the totals.
use mathlib.Core.Path.{ap}
use mathlib.Core.List.{List}
use Prim.Native.Nat.{ℕ}
use lib.ListN.{get_or}
use Rattle.model.specs.Limits.{most_label}
use Rattle.model.specs.Lists.{from}
use Rattle.rlc_c.proofs.Handing.{numbers_behind}
use Rattle.rlc_c.proofs.header_in.Goals as goal

pub returns : goal.returns
unfolding from
returns c =
    let words = c.args.words.now in
    ap (λ (l : List ℕ). record { size = record { vertices = get_or words 0 0; longest = get_or words 1 0 }; totals = l }) (numbers_behind words 2 most_label c.requires)
