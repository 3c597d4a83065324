-- `rlc_c::rlc_open` meets its contract.
use mathlib.Core.Path.{refl}
use Rattle.rlc_c.proofs.Handing.{unchanged, changed, open_given}
use Rattle.rlc_c.proofs.rlc_open.Goals as goal

pub returns-then-words-ne-RECORD : goal.returns-then-words-ne-RECORD
returns-then-words-ne-RECORD c = unchanged c.if-words-ne-RECORD.true

pub returns : goal.returns
returns c =
    changed c.if-words-ne-RECORD.false (rw c.header_in.ensures at c.open-changed.ensures) refl (open_given _ _) c.hand_back.ensures
