use native.Mathlib.Omega.{arith}
use Rattle.closure.proofs.Closing.{closing_none, closing_domain, closing_on, closing_more, closing_all}
use Rattle.closure.proofs.close.Goals as goal

pub loop-a-init : goal.loop-a-init
loop-a-init c = record { closing = closing_none _; high = omega arith }

pub close_row-requires : goal.close_row-requires
close_row-requires c =
    record {
      domain = closing_domain c.loop-a.invariant.closing c.requires.domain;
      row = c.in-Some.ensures.high;
      whole = (closing_on c.loop-a.invariant.closing c.requires c.in-Some.ensures).whole;
    }

pub loop-a-preserved : goal.loop-a-preserved
loop-a-preserved c =
    record {
      closing = closing_more (closing_on c.loop-a.invariant.closing c.requires c.in-Some.ensures) c.in-Some.ensures.high c.close_row.ensures;
      high = omega (arith, c.in-Some.ensures.high);
    }

pub returns : goal.returns
returns c = closing_all c.loop-a.invariant.closing c.requires c.in_default.ensures
