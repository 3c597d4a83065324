use Prim.Native.Nat.{◌+◌, ◌-◌}
use native.Mathlib.Omega.{arith}
use lib.Seq.{set-set}
use Rattle.edges.proofs.Shift.{insert_free, insert_rotated}
use Rattle.edges.proofs.insert.Goals as goal

pub returns : goal.returns
returns c =
    let turned = insert_rotated c.requires (c.args.at + c.standing.result + 1 - c.args.at) c.last_to_front.ensures (omega (arith, insert_free c.requires, c.standing.ensures)) in
    grind (arith, set-set)
