-- `named::check_change` meets its contract: each return is the first check that does not pass, or all have passed.
use mathlib.Core.Path.{◌≡◌, sym}
use Rattle.std.proofs.Common.{rules, Err}
use Rattle.calls.specs.Change.{change_refusal}
use Rattle.calls.proofs.Checks.{none, pass, stop}
use Rattle.checks.proofs.LayoutChecks.{layout_stop, layout_pass, layout_memory}
use Rattle.named.proofs.check_change.Goals as goal

pub returns-in_err-standing : goal.returns-in_err-standing
unfolding change_refusal
returns-in_err-standing c =
    let k : c.from_residual.result ≡ Err c.in_err-standing.field-0.0 = search rules in
    rw k (layout_stop _ _ _ _ _ c.in_err-standing.ensures)

pub returns-then-not-has_room : goal.returns-then-not-has_room
unfolding change_refusal
returns-then-not-has_room c = layout_pass c.in_ok-standing.ensures (stop (sym c.if-not-has_room.ensures))

pub returns-then-not-are_vertices : goal.returns-then-not-are_vertices
unfolding change_refusal
returns-then-not-are_vertices c =
    layout_pass c.in_ok-standing.ensures (pass (sym c.if-not-has_room.ensures) (stop (sym c.if-not-are_vertices.ensures)))

pub returns-then-not-is_label : goal.returns-then-not-is_label
unfolding change_refusal
returns-then-not-is_label c =
    layout_pass c.in_ok-standing.ensures
    (pass (sym c.if-not-has_room.ensures) (pass (sym c.if-not-are_vertices.ensures) (stop (sym c.if-not-is_label.ensures))))

pub returns : goal.returns
unfolding change_refusal
returns c =
    record {
      is =
          layout_pass c.in_ok-standing.ensures
          (pass (sym c.if-not-has_room.ensures) (pass (sym c.if-not-are_vertices.ensures) (pass (sym c.if-not-is_label.ensures) none)));
      count = (layout_memory c.in_ok-standing.ensures).count;
    }
