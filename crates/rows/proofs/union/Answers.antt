-- `rows::union` meets its contract.
use Rattle.std.proofs.Common.{rules}
use Rattle.rows.proofs.Writes.{union_is}
use Rattle.rows.proofs.union.Goals as goal

pub returns : goal.returns
returns c = union_is _ _ (λ i y e. search rules) c.combine.ensures
