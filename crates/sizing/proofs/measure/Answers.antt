-- `sizing::measure` meets its contract: what stands in memory after the card reading is counted, or the refusal is told.
use mathlib.Core.Path.{sym, ◌∙◌}
use Prim.Native.Nat.{◌+◌, ◌^◌, ◌<◌}
use native.Mathlib.Omega.{arith}
use Rattle.std.proofs.Common.{rules}
use Rattle.model.specs.Limits.{least_work}
use Rattle.model.specs.Lists.{Bytes}
use Rattle.memory.proofs.Reading.{standing_within}
use Rattle.calls.specs.Call.{lent}
use Rattle.calls.proofs.Card.{bytes_known}
use Rattle.printing.specs.Lines.{bytes_of}
use Rattle.sizing.proofs.Sized.{line_sizes, line_refusal}
use Rattle.sizing.proofs.measure.Goals as goal

-- no more edges and entries stand than slots
pub overflow_cast-layout : goal.overflow_cast-layout
overflow_cast-layout c =
    omega (arith, c.standing.ensures, standing_within c.read_card.new.edges, c.read_card.auto.edges, c.requires.edges_few)

pub overflow_cast-layout-in-Ok : goal.overflow_cast-layout-in-Ok
overflow_cast-layout-in-Ok c =
    omega (arith, c.standing-in-Ok.ensures, standing_within c.read_card.new.index, c.read_card.auto.index, c.requires.index_few)

pub put_sizes-requires : goal.put_sizes-requires
put_sizes-requires c =
    let few : bytes_of (least_work + c.standing-in-Ok.result) < 2 ^ 32 = omega (arith, c.standing-in-Ok.ensures, standing_within c.read_card.new.index, c.read_card.auto.index, c.requires.index_few) in
    rw c.new-text.ensures (omega arith, (few, omega arith))

pub returns-in-Err : goal.returns-in-Err
returns-in-Err c =
    c.put_refusal.ensures ∙ sym (line_refusal _ (lent c.args.edges.now c.args.index.now c.args.work.now) c.in-Err.ensures c.in-Err.refusal (search rules) c.read_card.auto.index)

pub returns-in-Ok : goal.returns-in-Ok
returns-in-Ok c =
    let bytes : Bytes c.args.card.now = bytes_known c.args.card.now (λ i. omega (arith, c.type_inv.card i)) in
    c.put_sizes.ensures ∙ rw c.new-text.ensures (sym (line_sizes _ (lent c.args.edges.now c.args.index.now c.args.work.now) c.in-Ok.ensures bytes (search rules) c.standing.ensures c.standing-in-Ok.ensures))
