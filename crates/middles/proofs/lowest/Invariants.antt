-- `middles::lowest` meets its contract. The invariant: the lowest from v on is the lowest.
use mathlib.Core.Path.{◌≡◌}
use Rattle.model.specs.Lists.{keep, up_to}
use Rattle.calls.specs.QueryTwo.{lowest}
use Rattle.middles.proofs.FirstOf.{both, lowest_from}
use Rattle.middles.proofs.lowest.Given as goal

abbrev pub invariant-loop-v : goal.invariant-loop-v
invariant-loop-v l = lowest_from (both l.out l.home) l.vertices l.v ≡ lowest (keep (both l.out l.home) (up_to l.vertices))
