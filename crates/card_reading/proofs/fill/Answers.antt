use Rattle.std.proofs.Common.{rules}
use native.Mathlib.Omega.{arith}
use Prim.Native.Nat.{◌≤◌}
use lib.ListN.{length}
use Rattle.memory.proofs.Copying.{copy_start, copy_end}
use Rattle.memory.proofs.Parts.{zeros_behind}
use Rattle.card_reading.proofs.Filling.{card_edges, card_edges_size, fill_turn}
use Rattle.card_reading.proofs.fill.Goals as goal

pub loop-i-init : goal.loop-i-init
loop-i-init c =
    let p = c.requires in
    copy_start (card_edges p) c.args.edges.now (omega (arith, card_edges_size p, p.room))

pub loop-i-preserved : goal.loop-i-preserved
loop-i-preserved c = fill_turn c.requires c.loop-i.invariant (omega arith) c.edge_at.ensures

pub returns : goal.returns
returns c =
    let p = c.requires in
    let room : length (card_edges p) ≤ length c.args.edges.now = omega (arith, card_edges_size p, p.room) in
    let past : length (card_edges p) ≤ c.loop-i.i = omega (arith, card_edges_size p, c.loop-i-test.false) in
    let all = copy_end (card_edges p) c.args.edges.now room c.loop-i.invariant past in
    zeros_behind (card_edges p) c.args.edges.now c.args.n (card_edges_size p) (rw (card_edges_size p) at all) (search rules)
