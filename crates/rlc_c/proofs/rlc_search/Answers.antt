-- `rlc_c::rlc_search` meets its contract.
use Rattle.replies.specs.InC.{replied_in_c}
use Rattle.rlc_c.proofs.Handing.{other, ten, size_is, untouched, called}
use Rattle.rlc_c.proofs.rlc_search.Goals as goal

pub returns-then-words-ne-RECORD : goal.returns-then-words-ne-RECORD
returns-then-words-ne-RECORD c = rw (other c.args.words.now c.if-words-ne-RECORD.true) untouched

pub returns : goal.returns
returns c =
    rw (ten c.args.words.now c.if-words-ne-RECORD.false) (called replied_in_c (rw (size_is c.header_in-header.ensures) at c.level_search-reply.ensures) c.search_number.ensures)
