-- `table2::table` meets its contract: `build` leaves Table II in index memory, and its lines are put.
use Rattle.std.proofs.Common.{◌≡◌, ◌∙◌, sym, Some, arith}
use Rattle.table2.proofs.Figure.{BuildsTable, buildable, built}
use Rattle.table2.proofs.table.Goals as goal

pub build-requires : goal.build-requires
build-requires c = buildable (omega arith)

pub returns-in-Some : goal.returns-in-Some
returns-in-Some c =
    let holds : BuildsTable c.build.new.index c.build.result = built (omega arith) c.build.ensures in
    let same : Some c.in-Some.n ≡ Some 26 = sym c.in-Some.is ∙ holds.reply in
    let count : c.in-Some.n ≡ 26 = cc in
    rw (c.put_entries.ensures, c.new-text.ensures, count, holds.front)

pub returns-in_default : goal.returns-in_default
returns-in_default c =
    let holds : BuildsTable c.build.new.index c.build.result = built (omega arith) c.build.ensures in
    absurd (c.in_default.not-Some _ holds.reply)
