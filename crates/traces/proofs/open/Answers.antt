-- `traces::open` meets its contract: what `store` promises is a step, an opening.
use Rattle.traces.specs.Traces.{opens}
use Rattle.traces.proofs.open.Goals as goal

pub returns : goal.returns
returns c = λ last. opens _ c.«open».ensures
