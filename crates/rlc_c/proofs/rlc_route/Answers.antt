-- `rlc_c::rlc_route` meets its contract.
use Rattle.std.proofs.Common.{rules}
use Rattle.replies.specs.InC.{routed_in_c}
use Rattle.rlc_c.proofs.Handing.{other, ten, size_is, untouched, called}
use Rattle.rlc_c.proofs.rlc_route.Goals as goal

pub returns-then-words-ne-RECORD : goal.returns-then-words-ne-RECORD
returns-then-words-ne-RECORD c = rw (other c.args.words.now c.if-words-ne-RECORD.true) untouched

pub returns : goal.returns
returns c =
    rw (ten c.args.words.now c.if-words-ne-RECORD.false) (called routed_in_c (rw (size_is c.header_in-header.ensures) at c.route-reply.ensures) (search rules))
