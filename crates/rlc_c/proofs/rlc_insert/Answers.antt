-- `rlc_c::rlc_insert` meets its contract.
use mathlib.Core.Path.{refl}
use Rattle.rlc_c.proofs.Handing.{unchanged, changed, insert_given}
use Rattle.rlc_c.proofs.rlc_insert.Goals as goal

pub returns-then-words-ne-RECORD : goal.returns-then-words-ne-RECORD
returns-then-words-ne-RECORD c = unchanged c.if-words-ne-RECORD.true

pub returns : goal.returns
returns c =
    changed c.if-words-ne-RECORD.false (rw c.header_in.ensures at c.insert-changed.ensures) refl (insert_given _ _ _ _ _) c.hand_back.ensures
