-- `listing::list` meets its contract: what stands in memory after the card reading is listed, or the refusal is.
use mathlib.Core.Path.{sym}
use Prim.Native.Nat.{◌≤◌}
use native.Mathlib.Omega.{arith}
use lib.ListN.{length}
use lib.Seq.{length-take-le}
use Rattle.memory.proofs.Reading.{standing_within}
use Rattle.listing.proofs.Printed.{printed_listing, printed_refused}
use Rattle.listing.proofs.list.Goals as goal

pub slice_bounds-put_listing-end : goal.slice_bounds-put_listing-end
slice_bounds-put_listing-end c =
    let within : c.standing-n.result ≤ length c.read_card.new.index = omega (arith, c.standing-n.ensures, standing_within c.read_card.new.index) in
    sym (length-take-le _ _ within)

pub returns-in-Err : goal.returns-in-Err
returns-in-Err c = rw (c.put_refused.ensures, c.requires, c.from.ensures) (printed_refused _ c.read_card.ensures c.in-Err.is)

pub returns-in-Ok : goal.returns-in-Ok
returns-in-Ok c =
    rw (c.put_listing.ensures, c.requires)
    (printed_listing _ c.read_card.ensures c.in-Ok.is c.standing-m.ensures c.standing-n.ensures)
