-- `changes::check_read` meets its contract: the checks of the card, then 3, 9 and 4.
use mathlib.Core.Path.{◌≡◌, sym}
use native.Mathlib.Omega.{arith}
use Rattle.std.proofs.Common.{rules, Err}
use Rattle.changes.proofs.Reading.{read_stops, read_many, read_full, read_short, read_passes}
use Rattle.changes.proofs.check_read.Goals as goal

pub returns-in_err-layout : goal.returns-in_err-layout
returns-in_err-layout c =
    let k : c.from_residual.result ≡ Err c.in_err-layout.field-0.0 = search rules in
    rw k (read_stops _ _ c.in_err-layout.field-0.0 c.in_err-layout.ensures)

pub returns-then-edges-gt-MOST_EDGES : goal.returns-then-edges-gt-MOST_EDGES
returns-then-edges-gt-MOST_EDGES c = read_many _ _ c.in_ok-layout.ensures.is c.if-edges-gt-MOST_EDGES.true

pub returns-then-edges-layout : goal.returns-then-edges-layout
returns-then-edges-layout c =
    let p = c.in_ok-layout.ensures in
    read_full _ _ p.is c.if-edges-gt-MOST_EDGES.false (omega (arith, c.if-edges-layout.true, p.count))

pub returns-then-not-has_room : goal.returns-then-not-has_room
returns-then-not-has_room c =
    let p = c.in_ok-layout.ensures in
    read_short _ _ p.is c.if-edges-gt-MOST_EDGES.false (omega (arith, c.if-edges-layout.false, p.count)) (sym c.if-not-has_room.ensures)

pub returns : goal.returns
returns c =
    let p = c.in_ok-layout.ensures in
    record {
      is = read_passes _ _ p.is c.if-edges-gt-MOST_EDGES.false (omega (arith, c.if-edges-layout.false, p.count)) (sym c.if-not-has_room.ensures);
      size_is = p.size_is;
      count = p.count;
    }
