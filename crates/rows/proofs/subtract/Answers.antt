-- `rows::subtract` meets its contract.
use Rattle.std.proofs.Common.{rules}
use Rattle.rows.proofs.Writes.{subtract_is}
use Rattle.rows.proofs.subtract.Goals as goal

pub returns : goal.returns
returns c = subtract_is _ _ (λ i. search rules) (λ i y e. search rules) c.combine.ensures
