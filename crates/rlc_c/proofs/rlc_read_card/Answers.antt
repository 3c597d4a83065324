-- `rlc_c::rlc_read_card` meets its contract.
use mathlib.Core.Path.{refl}
use Rattle.rlc_c.proofs.Handing.{unchanged, card_refused, card_accepted}
use Rattle.rlc_c.proofs.rlc_read_card.Goals as goal

pub returns-then-words-ne-RECORD : goal.returns-then-words-ne-RECORD
returns-then-words-ne-RECORD c = unchanged c.if-words-ne-RECORD.true

pub returns-in-Err : goal.returns-in-Err
returns-in-Err c = card_refused c.if-words-ne-RECORD.false c.in-Err.ensures _ refl c.from.ensures

pub returns-in-Ok : goal.returns-in-Ok
returns-in-Ok c = card_accepted c.if-words-ne-RECORD.false c.in-Ok.ensures refl refl c.hand_back.ensures
