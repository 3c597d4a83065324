-- `rlc_c::rlc_query_two` meets its contract.
use Rattle.std.proofs.Common.{rules}
use Rattle.replies.specs.InC.{two_answered_in_c}
use Rattle.rlc_c.proofs.Handing.{other, ten, untouched, called}
use Rattle.rlc_c.proofs.rlc_query_two.Goals as goal

pub returns-then-words-ne-RECORD : goal.returns-then-words-ne-RECORD
returns-then-words-ne-RECORD c = rw (other c.args.words.now c.if-words-ne-RECORD.true) untouched

pub returns : goal.returns
returns c =
    rw (ten c.args.words.now c.if-words-ne-RECORD.false) (called two_answered_in_c (rw c.header_in-header.ensures at c.query_two-middle.ensures) (search rules))
