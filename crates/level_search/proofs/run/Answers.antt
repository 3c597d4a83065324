-- `level_search::run` meets its contract: the marks are zeroed for the levels, and then the whole of work memory.
use mathlib.Core.Path.{sym}
use native.Mathlib.Omega.{arith}
use lib.Seq.{length-take-le}
use Rattle.model.specs.Computed.Levels.{most_states}
use Rattle.frontier.proofs.Front.{marks_cleared}
use Rattle.level_search.proofs.run.Goals as goal

pub slice_bounds-fill-end-2 : goal.slice_bounds-fill-end-2
slice_bounds-fill-end-2 c = sym (length-take-le most_states c.args.work.now (omega arith))

pub levels-reply-requires-clause-unmarked : goal.levels-reply-requires-clause-unmarked
levels-reply-requires-clause-unmarked c = marks_cleared c.args.work.now c.requires.1 (c.fill.ensures.after (λ y e. e))
