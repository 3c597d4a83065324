-- `bench_c::bench_build` meets its contract: the number of the reply that building ensures. Assumes nothing.
use mathlib.Core.Path.{refl}
use Rattle.bench_c.proofs.Number.{builds_number}
use Rattle.bench_c.proofs.bench_build.Goals as goal

pub returns-in-Some : goal.returns-in-Some
returns-in-Some c = builds_number c.in-Some.ensures _ refl

pub returns-in-None : goal.returns-in-None
returns-in-None c = builds_number c.in-None.ensures _ refl
