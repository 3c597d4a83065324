-- `frontier::reach` meets its contract: a state that is marked adds nothing, and another is marked and queued, for which there is room.
use native.Mathlib.Omega.{arith}
use lib.ListN.{length-set}
use Rattle.frontier.proofs.Grow.{room_left, grown_old, grown_new}
use Rattle.frontier.proofs.reach.Goals as goal

pub returns-then-work-y-eq1 : goal.returns-then-work-y-eq1
returns-then-work-y-eq1 c = grown_old _ _ c.args.y c.if-work-y-eq1.true

pub returns : goal.returns
returns c = grown_new _ _ _ c.requires.0 c.requires.1 c.if-work-y-eq1.false

pub bounds-work-tail : goal.bounds-work-tail
bounds-work-tail c = simp length-set (omega (arith, room_left _ _ _ c.requires.0 c.requires.1 c.if-work-y-eq1.false))
