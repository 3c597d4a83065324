use native.Mathlib.Omega.{arith}
use Rattle.edges.proofs.Shift.{remove_free, remove_most, remove_rotated}
use Rattle.edges.proofs.remove.Goals as goal

pub returns : goal.returns
returns c =
    let free = remove_free c.requires in
    let most = remove_most c.requires in
    let n = c.standing.ensures in
    remove_rotated c.requires _ c.first_to_back.ensures (omega arith) (omega arith)
