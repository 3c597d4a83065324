use mathlib.Core.Path.{◌≡◌, sym, ◌∙◌}
use Prim.Native.Nat.{◌+◌, ◌*◌, ◌<◌}
use native.Mathlib.Omega.{arith}
use lib.ListN.{length}
use Rattle.model.specs.Limits.{triple_bytes}
use Rattle.calls.proofs.Card.{triples_other, triples_low, triples_more, triples_done}
use Rattle.card_edges.proofs.are_rising.Goals as goal
use Rattle.card_edges.proofs.are_rising.Goals.{After-fields_at-edge}

-- an edge's three bytes are there
whole : (c : After-fields_at-edge) → triple_bytes * c.loop-i.i + 2 < length c.args.body.now
whole c = omega arith

pub returns-then-not-is_edge : goal.returns-then-not-is_edge
returns-then-not-is_edge c =
    let is = rw c.fields_at-edge.ensures at (sym c.is_edge.ensures ∙ c.if-not-is_edge.true) in
    sym (triples_other _ _ _ _ (whole (goal.at.returns-then-not-is_edge c).After-fields_at-edge) is) ∙ c.loop-i.invariant

pub returns-then-x-prev : goal.returns-then-x-prev
returns-then-x-prev c =
    let is = rw c.fields_at-edge.ensures at (sym c.is_edge.ensures ∙ c.if-not-is_edge.false) in
    let low = rw (c.number-x.ensures, c.fields_at-edge.ensures) at c.if-x-prev.true in
    sym (triples_low _ _ _ _ (whole (goal.at.returns-then-x-prev c).After-fields_at-edge) is low) ∙ c.loop-i.invariant

pub loop-i-preserved : goal.loop-i-preserved
loop-i-preserved c =
    let next : triple_bytes * (c.loop-i.i + 1) ≡ triple_bytes * c.loop-i.i + 3 = omega arith in
    let is = rw c.fields_at-edge.ensures at (sym c.is_edge.ensures ∙ c.if-not-is_edge.false) in
    let above = rw (c.number-x.ensures, c.fields_at-edge.ensures) at c.if-x-prev.false in
    let more = triples_more _ _ _ _ (whole (goal.at.loop-i-preserved c).After-fields_at-edge) is above in
    rw (c.number-x.ensures, c.fields_at-edge.ensures, next) (sym more ∙ c.loop-i.invariant)

pub returns : goal.returns
returns c = sym (triples_done _ _ _ (triple_bytes * c.loop-i.i) (omega arith)) ∙ c.loop-i.invariant
