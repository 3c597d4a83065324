use mathlib.Core.Path.{◌≡◌}
use Rattle.std.proofs.Common.{rules}
use lib.ListN.{length}
use Rattle.model.specs.Limits.{most_vertices}
use Rattle.edges.proofs.Slots.{under_none, starts_none}
use Rattle.edges.proofs.fill_slots.Goals as goal

pub loop-v-init : goal.loop-v-init
loop-v-init c =
    let long : length c.args.slots.now ≡ most_vertices = search rules in
    (rw (c.fill.ensures.after (λ y e. e), long) (starts_none _), under_none _ _)
