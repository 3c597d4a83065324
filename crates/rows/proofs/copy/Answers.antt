-- `rows::copy` meets its contract.
use Rattle.std.proofs.Common.{rules}
use Rattle.rows.proofs.Writes.{copy_is}
use Rattle.rows.proofs.copy.Goals as goal

pub returns : goal.returns
returns c = copy_is _ (λ i y e. search rules) c.combine.ensures
