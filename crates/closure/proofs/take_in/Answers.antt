-- `closure::take_in` meets its contract.
use native.Mathlib.Omega.{arith}
use Rattle.closure.proofs.Taking.{takes_one, takes_row}
use Rattle.closure.proofs.take_in.Goals as goal

-- before the branch, p alone is open no more (takes_one)
pub returns-then-p-a : goal.returns-then-p-a
returns-then-p-a c =
    takes_row c.requires.0 c.requires.1.0 (omega (arith, c.if-p-a.true)) (takes_one c.requires.0 c.requires.1.0 c.union.ensures c.unmark.ensures) c.subtract.ensures

pub returns-else-p-a : goal.returns-else-p-a
returns-else-p-a c = takes_one c.requires.0 c.requires.1.0 c.union.ensures c.unmark.ensures
