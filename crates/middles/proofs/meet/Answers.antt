-- `middles::meet` meets its contract: both tables, and then work memory is zeroed.
use Rattle.std.proofs.Common.{rules}
use mathlib.Core.Path.{◌∙◌}
use Rattle.middles.proofs.Telling.{tables_meet}
use Rattle.middles.proofs.meet.Goals as goal

-- zeroed, work memory is as it was zeroed, for the tables keep its length
pub returns : goal.returns
returns c = record {
  is = c.lowest.ensures ∙ tables_meet c.led-out.ensures c.led-home.ensures;
  work_after = search rules;
}
