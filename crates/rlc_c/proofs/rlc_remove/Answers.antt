-- `rlc_c::rlc_remove` meets its contract.
use mathlib.Core.Path.{refl}
use Rattle.rlc_c.proofs.Handing.{unchanged, changed, remove_given}
use Rattle.rlc_c.proofs.rlc_remove.Goals as goal

pub returns-then-words-ne-RECORD : goal.returns-then-words-ne-RECORD
returns-then-words-ne-RECORD c = unchanged c.if-words-ne-RECORD.true

pub returns : goal.returns
returns c =
    changed c.if-words-ne-RECORD.false (rw c.header_in.ensures at c.remove-changed.ensures) refl (remove_given _ _ _ _ _) c.hand_back.ensures
