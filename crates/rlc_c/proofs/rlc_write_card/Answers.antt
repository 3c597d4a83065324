-- `rlc_c::rlc_write_card` meets its contract.
use mathlib.Core.Path.{refl}
use Rattle.rlc_c.specs.Interface.{wrote_in_c}
use Rattle.rlc_c.proofs.Handing.{other, ten, size_is, untouched, called}
use Rattle.rlc_c.proofs.rlc_write_card.Goals as goal

pub returns-then-words-ne-RECORD : goal.returns-then-words-ne-RECORD
returns-then-words-ne-RECORD c = rw (other c.args.words.now c.if-words-ne-RECORD.true) untouched

pub returns-in-Ok : goal.returns-in-Ok
returns-in-Ok c =
    rw (ten c.args.words.now c.if-words-ne-RECORD.false) (called wrote_in_c (rw (size_is c.header_in-header.ensures) at c.in-Ok.ensures) refl)

pub returns-in-Err : goal.returns-in-Err
returns-in-Err c =
    rw (ten c.args.words.now c.if-words-ne-RECORD.false) (called wrote_in_c (rw (size_is c.header_in-header.ensures) at c.in-Err.ensures) c.refused_number.ensures)
