-- `changes::read` meets its contract: a refusal leaves memory alone; else edge memory is saved, filled from the card, and settled.
use mathlib.Core.Path.{◌≡◌, refl, sym}
use native.Mathlib.Omega.{arith}
use lib.ListN.{drop}
use Rattle.std.proofs.Common.{rules, Err}
use Rattle.model.specs.Limits.{head_bytes}
use Rattle.calls.specs.Call.{lent}
use Rattle.calls.specs.Card.{edges_of}
use Rattle.changes.proofs.Trying.{Wanted, Tried, save_room, settleable, settled}
use Rattle.changes.proofs.Reading.{read_fillable, read_wanted, read_leaves, refused_leaves}
use Rattle.changes.proofs.read.Goals as goal
use Rattle.changes.proofs.read.Goals.{In_ok-layout, After-fill}

wanted : (c : In_ok-layout) → Wanted c.in_ok-layout.layout.size (edges_of (drop head_bytes c.args.card.now))
    (lent c.args.edges.now c.args.index.now c.args.work.now) c.in_ok-layout.layout.edges
wanted c = read_wanted c.in_ok-layout.ensures (omega (arith, c.type_inv.card 5))

tried : (c : After-fill) → Tried (edges_of (drop head_bytes c.args.card.now)) (lent c.args.edges.now c.args.index.now c.args.work.now) c.fill.new.edges c.save.new.work
tried c = record { edges_are = c.fill.ensures; saves = c.save.ensures }

-- refused by the checks
pub returns-in_err-layout : goal.returns-in_err-layout
returns-in_err-layout c =
    let r = c.in_err-layout.field-0.0 in
    let k : c.from_residual.result ≡ Err r = search rules in
    rw k (refused_leaves _ _ r c.in_err-layout.ensures)

pub save-requires : goal.save-requires
save-requires c = save_room (wanted (goal.at.save-requires c).In_ok-layout)

pub fill-requires : goal.fill-requires
fill-requires c = read_fillable c.in_ok-layout.ensures

pub settle-requires : goal.settle-requires
settle-requires c = settleable (wanted (goal.at.settle-requires c).In_ok-layout) (tried (goal.at.settle-requires c).After-fill)

-- refused as the entries do not fit
pub returns-in_err-settle : goal.returns-in_err-settle
returns-in_err-settle c =
    let r = c.in_err-settle.field-0.0 in
    let k : c.from_residual-in_err-settle.result ≡ Err r = search rules in
    rw k
    (read_leaves c.in_ok-layout.ensures
    (settled (wanted (goal.at.returns-in_err-settle c).In_ok-layout) (tried (goal.at.returns-in_err-settle c).After-fill) refl c.in_err-settle.ensures))

pub returns : goal.returns
returns c =
    let p = c.in_ok-layout.ensures in
    (read_leaves p (settled (wanted (goal.at.returns c).In_ok-layout) (tried (goal.at.returns c).After-fill) refl c.in_ok-settle.ensures), sym p.size_is)
