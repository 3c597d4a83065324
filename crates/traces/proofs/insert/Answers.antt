-- `traces::insert` meets its contract: what `store` promises is a step, an insertion.
use Rattle.traces.specs.Traces.{inserts}
use Rattle.traces.proofs.insert.Goals as goal

pub returns : goal.returns
returns c = inserts _ _ _ _ _ c.insert.ensures
