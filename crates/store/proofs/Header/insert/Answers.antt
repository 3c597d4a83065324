-- `store::Header::insert` meets its contract: the insertion's, with the header that is handed back.
use mathlib.Core.Path.{sym, ◌∙◌}
use native.Mathlib.Omega.{arith}
use Rattle.calls.specs.Change.{insert_call}
use Rattle.calls.proofs.Change.{handing_meets, insert_few}
use Rattle.store.proofs.Header.insert.Goals as goal

-- an accepted one was lent at most 1,024 edge slots
pub hand_back-requires : goal.hand_back-requires
hand_back-requires c e =
    omega (arith, insert_few _ _ _ _ _ (sym c.insert-answer.ensures.reply_is ∙ e), c.insert-answer.auto.edges)

pub returns : goal.returns
unfolding insert_call
returns c = handing_meets _ _ c.insert-answer.ensures c.hand_back.ensures
