-- `middles::led` meets its contract: a pattern that is written once is put to the index, and another is searched, forward or backward.
use Rattle.model.proofs.Patterns.{count_once, count_more}
use Rattle.middles.proofs.Telling.{led_once, led_out, led_in}
use Rattle.middles.proofs.led.Goals as goal

pub returns-then-minimum_repeat-eq1 : goal.returns-then-minimum_repeat-eq1
returns-then-minimum_repeat-eq1 c =
    led_once c.requires.0 c.args.side (count_once _ c.minimum_repeat.ensures.1 c.if-minimum_repeat-eq1.true) c.answers.ensures

pub returns-in-Out : goal.returns-in-Out
returns-in-Out c =
    rw c.in-Out.is (led_out c.requires.0 (count_more _ c.minimum_repeat.ensures.1 c.if-minimum_repeat-eq1.false) c.reached.ensures)

pub returns-in-In : goal.returns-in-In
returns-in-In c =
    rw c.in-In.is (led_in c.requires.0 (count_more _ c.minimum_repeat.ensures.1 c.if-minimum_repeat-eq1.false) c.reaching.ensures)
