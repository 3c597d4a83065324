-- `store::write_card` meets its contract: a refusal leaves the output alone; else the card of the standing edges is written.
use mathlib.Core.Path.{◌≡◌, sym}
use native.Mathlib.Omega.{arith}
use lib.Seq.{length-take-le}
use Rattle.std.proofs.Common.{rules, Err}
use Rattle.store.proofs.CardOut.{write_stops, memory, writable, wrote}
use Rattle.store.proofs.write_card.Goals as goal

pub returns-in_err-n : goal.returns-in_err-n
returns-in_err-n c =
    let k : c.from_residual.result ≡ Err c.in_err-n.field-0.0 = search rules in
    rw k (write_stops _ _ c.in_err-n.field-0.0 c.in_err-n.ensures)

pub slice_bounds-write-end : goal.slice_bounds-write-end
slice_bounds-write-end c = sym (length-take-le _ c.args.edges.now (memory c.in_ok-n.ensures).within)

pub write-requires : goal.write-requires
write-requires c = writable c.in_ok-n.ensures

pub overflow_mul-result : goal.overflow_mul-result
overflow_mul-result c = let s = memory c.in_ok-n.ensures in omega (arith, s.within, s.slots)

pub overflow_add-result : goal.overflow_add-result
overflow_add-result c = let s = memory c.in_ok-n.ensures in omega (arith, s.within, s.slots)

pub returns : goal.returns
returns c = wrote c.in_ok-n.ensures c.write.ensures
