-- `store::Header::hand_back` meets its contract: the header given with a refusal, else one with the totals counted.
use mathlib.Core.Path.{ap}
use Rattle.model.specs.Replies.{answer_of, number_of}
use Rattle.model.proofs.Replies.{number_some}
use Rattle.calls.proofs.Change.{handed_some}
use Rattle.store.proofs.Header.hand_back.Goals as goal

pub returns-in-Err : goal.returns-in-Err
returns-in-Err c = let r = c.in-Err.field-0 in rw (c.in-Err.is, handed_some _ _ _ (number_of r) (number_some r))

pub totals-requires : goal.totals-requires
totals-requires c = c.requires (ap answer_of c.in-Ok.is)

pub returns-in-Ok : goal.returns-in-Ok
returns-in-Ok c = rw (c.in-Ok.is, c.totals.ensures)
