-- `build::build` meets its contract: the entries staged, and written if they fit.
use mathlib.Core.Path.{◌≡◌}
use Prim.Native.Nat.{ℕ, ◌+◌, ◌-◌}
use native.Mathlib.Omega.{arith}
use Rattle.model.specs.Limits.{least_work}
use Rattle.build.proofs.Building.{builds_none, writable, builds_all}
use Rattle.build.proofs.build.Goals as goal

-- as many numbers are lent as are staged
lent_is : (n : ℕ) → least_work + n - least_work ≡ n
lent_is n = omega arith

pub returns-in_err-count : goal.returns-in_err-count
returns-in_err-count c =
    rw c.from_residual.ensures (builds_none c.args.index.now c.requires c.stage.new.w (rw c.in_err-count.was at c.stage.ensures))

pub write-requires : goal.write-requires
write-requires c = writable c.args.index.now c.requires c.stage.new.w (rw c.in_ok-count.was at c.stage.ensures) (lent_is c.in_ok-count.count)

pub returns : goal.returns
returns c =
    builds_all c.args.index.now c.requires c.stage.new.w (rw c.in_ok-count.was at c.stage.ensures) (lent_is c.in_ok-count.count)
    c.write.new.staged c.write.auto.staged c.write.ensures
