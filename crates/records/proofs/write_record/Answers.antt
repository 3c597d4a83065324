use Rattle.std.proofs.Common.{◌∙◌}
use Rattle.model.proofs.Lists.{part_last}
use Rattle.records.proofs.Writing.{written}
use Rattle.records.proofs.write_record.Goals as goal

pub returns : goal.returns
returns c = rw c.copy_from_slice.ensures.after (part_last _ c.args.totals 2 ∙ written c.args.words.now c.args.totals _ _ c.requires)
