-- `reachable::reached` meets its contract: the marks are zeroed, and then those of the vertices that the flood leaves.
use mathlib.Core.Path.{sym}
use native.Mathlib.Omega.{arith}
use lib.Seq.{length-take-le}
use Rattle.model.specs.Computed.Levels.{most_states}
use Rattle.frontier.proofs.Front.{marks_cleared}
use Rattle.reachable.proofs.reached.Goals as goal

pub slice_bounds-fill-end-2 : goal.slice_bounds-fill-end-2
slice_bounds-fill-end-2 c = sym (length-take-le most_states c.args.work.now (omega arith))

pub flood-requires-clause-unmarked : goal.flood-requires-clause-unmarked
flood-requires-clause-unmarked c = marks_cleared c.args.work.now c.requires.1 (c.fill.ensures.after (λ y e. e))
