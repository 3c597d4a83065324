-- `traces::remove` meets its contract: what `store` promises is a step, a removal.
use borrow.Author.Rules.{rules}
use Rattle.traces.specs.Traces.{removes}
use Rattle.traces.proofs.remove.Goals as goal

pub returns : goal.returns
returns c = search (rules, removes)
