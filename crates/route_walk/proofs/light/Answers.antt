-- `route_walk::light` meets its contract where the walk does not fit. Elsewhere the lemmas that its attribute names do.
use Rattle.std.proofs.Common.{rules}
use Rattle.route_walk.proofs.Lighting.{light_short}
use Rattle.route_walk.proofs.light.Goals as goal

pub returns-then-walk-n : goal.returns-then-walk-n
returns-then-walk-n c = search (rules, light_short)
