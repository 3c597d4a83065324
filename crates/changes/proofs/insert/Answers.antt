-- `changes::insert` meets its contract: a refusal leaves memory alone; else edge memory is saved, the insertion made and settled.
use mathlib.Core.Path.{◌≡◌, refl, ap, ◌∙◌}
use Prim.Native.Nat.{ℕ}
use native.Mathlib.Omega.{arith}
use lib.ListN.{length}
use Rattle.std.proofs.Common.{rules, Err}
use Rattle.model.specs.Lists.{filled}
use Rattle.model.specs.Edges.{edge_number, standing}
use Rattle.model.specs.Computed.Edges.{insert_edge}
use Rattle.calls.specs.Call.{lent}
use Rattle.named.proofs.Naming.{numbered}
use Rattle.changes.proofs.Trying.{Tried, save_room, settleable, settled}
use Rattle.changes.proofs.Calls.{insert_stops, insert_wanted, insert_leaves}
use Rattle.changes.proofs.insert.Goals as goal
use Rattle.changes.proofs.insert.Goals.{After-insert}

-- the wanted edges stand
tried : (c : After-insert) → Tried (insert_edge (edge_number c.args.edge.from c.args.edge.label c.args.edge.to) (standing c.args.edges.now))
    (lent c.args.edges.now c.args.index.now c.args.work.now) c.insert.new.edges c.save.new.work
tried c =
    record {
      edges_are =
          c.insert.ensures
          ∙ ap (λ (x : ℕ). filled (length c.args.edges.now) (insert_edge x (standing c.args.edges.now))) c.number.ensures;
      saves = c.save.ensures;
    }

pub returns-in_err-place : goal.returns-in_err-place
returns-in_err-place c =
    let r = c.in_err-place.field-0.0 in
    let k : c.from_residual.result ≡ Err r = search rules in
    rw k (insert_stops _ _ _ _ _ r c.in_err-place.ensures)

pub save-requires : goal.save-requires
save-requires c = save_room (insert_wanted c.in_ok-place.ensures)

pub number-requires : goal.number-requires
number-requires c = numbered c.in_ok-place.ensures.passes

pub insert-requires : goal.insert-requires
insert-requires c = rw c.number.ensures c.in_ok-place.ensures.place

pub overflow_add-place : goal.overflow_add-place
overflow_add-place c = omega (arith, c.in_ok-place.ensures.passes.count, c.in_ok-place.ensures.place.room, (insert_wanted c.in_ok-place.ensures).few)

pub settle-requires : goal.settle-requires
settle-requires c = settleable (insert_wanted c.in_ok-place.ensures) (tried (goal.at.settle-requires c).After-insert)

pub returns : goal.returns
returns c =
    let p = c.in_ok-place.ensures in
    insert_leaves p (settled (insert_wanted p) (tried (goal.at.returns c).After-insert) refl c.settle.ensures)
