-- `store::Header::open` meets its contract: the opening's, with the header that is handed back.
use mathlib.Core.Path.{sym, ◌∙◌}
use native.Mathlib.Omega.{arith}
use Rattle.calls.specs.Change.{open_call}
use Rattle.calls.proofs.Change.{handing_meets, open_few}
use Rattle.store.proofs.Header.open.Goals as goal

-- an accepted one was lent at most 1,024 edge slots
pub hand_back-requires : goal.hand_back-requires
hand_back-requires c e =
    omega (arith, open_few _ _ (sym c.open-answer.ensures.reply_is ∙ e), c.open-answer.auto.edges)

pub returns : goal.returns
unfolding open_call
returns c = handing_meets _ _ c.open-answer.ensures c.hand_back.ensures
