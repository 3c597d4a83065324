use Prim.Native.Nat.{◌<◌}
use native.Mathlib.Omega.{arith}
use Rattle.std.proofs.lemmas.Bool.Decides.{nat_tests}
use Rattle.frontier.proofs.Grow.{room_top}
use Rattle.frontier.proofs.Stands.{stands_first}
use Rattle.reachable.proofs.AllLevels.{flood_on, flood_over}
use Rattle.reachable.proofs.flood.Goals as goal

pub loop-level-init : goal.loop-level-init
loop-level-init c = record { c = 0; stands = rw c.from.ensures (stands_first _ _ _ _ c.requires.searchable c.requires.unmarked) }

pub loop-level-smaller : goal.loop-level-smaller
loop-level-smaller c =
    let some : c.loop-level.level.start < c.loop-level.level.end = grind (arith, nat_tests) in
    omega (arith, room_top _ _ c.loop-level.invariant.stands.room)

pub loop-level-preserved : goal.loop-level-preserved
loop-level-preserved c = rw c.next_level-level.ensures.start (flood_on _ _ _ _ c.requires.searchable c.loop-level.invariant c.next_level-level.ensures.grown)

pub returns : goal.returns
returns c = flood_over _ _ _ _ c.requires.searchable c.loop-level.invariant (grind (arith, nat_tests))
