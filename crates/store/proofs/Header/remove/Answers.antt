-- `store::Header::remove` meets its contract: the removal's, with the header that is handed back.
use mathlib.Core.Path.{sym, ◌∙◌}
use native.Mathlib.Omega.{arith}
use Rattle.calls.specs.Change.{remove_call}
use Rattle.calls.proofs.Change.{handing_meets, remove_few}
use Rattle.store.proofs.Header.remove.Goals as goal

-- an accepted one was lent at most 1,024 edge slots
pub hand_back-requires : goal.hand_back-requires
hand_back-requires c e =
    omega (arith, remove_few _ _ _ _ _ (sym c.remove-answer.ensures.reply_is ∙ e), c.remove-answer.auto.edges)

pub returns : goal.returns
unfolding remove_call
returns c = handing_meets _ _ c.remove-answer.ensures c.hand_back.ensures
