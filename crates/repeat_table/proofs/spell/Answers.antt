use Rattle.repeat_table.proofs.Spelling.{spelled_more, spelled_all}
use Rattle.repeat_table.proofs.spell.Goals as goal

pub loop-i-preserved : goal.loop-i-preserved
loop-i-preserved c = spelled_more c.loop-i.invariant c.loop-i-test.true

pub returns : goal.returns
returns c = spelled_all c.loop-i.invariant c.loop-i-test.false
