-- `changes::remove` meets its contract: a refusal leaves memory alone; else edge memory is saved, the removal made and settled.
use mathlib.Core.Path.{◌≡◌, refl, ap, ◌∙◌}
use Prim.Native.Nat.{ℕ}
use native.Mathlib.Omega.{arith}
use lib.ListN.{length}
use Rattle.std.proofs.Common.{rules, Err}
use Rattle.model.specs.Lists.{filled}
use Rattle.model.specs.Edges.{edge_number, standing}
use Rattle.model.specs.Computed.Edges.{remove_edge}
use Rattle.calls.specs.Call.{lent}
use Rattle.changes.proofs.Trying.{Tried, save_room, settleable, settled}
use Rattle.changes.proofs.Calls.{remove_stops, remove_wanted, remove_leaves}
use Rattle.changes.proofs.remove.Goals as goal
use Rattle.changes.proofs.remove.Goals.{After-remove}

-- the wanted edges stand
tried : (c : After-remove) → Tried (remove_edge (edge_number c.args.edge.from c.args.edge.label c.args.edge.to) (standing c.args.edges.now))
    (lent c.args.edges.now c.args.index.now c.args.work.now) c.remove.new.edges c.save.new.work
tried c =
    record {
      edges_are =
          c.remove.ensures
          ∙ ap (λ (x : ℕ). filled (length c.args.edges.now) (remove_edge x (standing c.args.edges.now))) c.in_ok-place.ensures.there;
      saves = c.save.ensures;
    }

pub returns-in_err-place : goal.returns-in_err-place
returns-in_err-place c =
    let r = c.in_err-place.field-0.0 in
    let k : c.from_residual.result ≡ Err r = search rules in
    rw k (remove_stops _ _ _ _ _ r c.in_err-place.ensures)

pub save-requires : goal.save-requires
save-requires c = save_room (remove_wanted c.in_ok-place.ensures)

pub remove-requires : goal.remove-requires
remove-requires c = c.in_ok-place.ensures.place

pub overflow_sub-place : goal.overflow_sub-place
overflow_sub-place c = omega (arith, c.in_ok-place.ensures.place.inside, c.in_ok-place.ensures.passes.count)

pub settle-requires : goal.settle-requires
settle-requires c = settleable (remove_wanted c.in_ok-place.ensures) (tried (goal.at.settle-requires c).After-remove)

pub returns : goal.returns
returns c =
    let p = c.in_ok-place.ensures in
    remove_leaves p (settled (remove_wanted p) (tried (goal.at.returns c).After-remove) refl c.settle.ensures)
