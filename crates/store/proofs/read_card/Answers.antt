-- `store::read_card` meets its contract: the card reading's, with the header that is handed back, or none.
use mathlib.Core.Path.{◌≡◌, sym, ap₂}
use mathlib.Core.List.{List}
use Prim.Native.Nat.{ℕ}
use native.Mathlib.Omega.{arith}
use Rattle.std.proofs.Common.{rules, Err}
use Rattle.model.specs.Replies.{number_of}
use Rattle.model.proofs.Replies.{number_some}
use Rattle.calls.specs.Call.{Size, Returned}
use Rattle.calls.specs.Card.{read_call}
use Rattle.calls.proofs.Change.{handed_some, handing_meets, read_few}
use Rattle.store.proofs.read_card.Goals as goal

pub returns-in_err-size : goal.returns-in_err-size
unfolding read_call
returns-in_err-size c =
    let r = c.in_err-size.field-0.0 in
    let k : c.from_residual.result ≡ Err r = search rules in
    rw k (handing_meets _ _ c.in_err-size.ensures (rw (handed_some _ _ _ (number_of r) (number_some r))))

-- an accepted one was lent at most 1,024 edge slots
pub totals-totals-requires : goal.totals-totals-requires
totals-totals-requires c = omega (arith, read_few _ _ (sym c.in_ok-size.ensures.0.reply_is), c.read.auto.edges)

pub returns : goal.returns
unfolding read_call
returns c =
    handing_meets _ _ c.in_ok-size.ensures.0
    (ap₂ (λ (s : Size) (t : List ℕ). record { header = record { size = s; totals = t }; answer = 0 }) (sym c.in_ok-size.ensures.1) c.totals-totals.ensures)
