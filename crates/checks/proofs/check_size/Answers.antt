-- `checks::check_size` meets its contract: each return is the first check that does not pass.
use mathlib.Core.Path.{sym}
use Rattle.calls.proofs.Checks.{none, pass, stop, header_is}
use Rattle.checks.proofs.check_size.Goals as goal

pub returns-then-not-is_vertex_count : goal.returns-then-not-is_vertex_count
returns-then-not-is_vertex_count c = sym (header_is _ _ (stop (sym c.if-not-is_vertex_count.ensures)))

pub returns-then-not-is_longest : goal.returns-then-not-is_longest
returns-then-not-is_longest c = sym (header_is _ _ (pass (sym c.if-not-is_vertex_count.ensures) (stop (sym c.if-not-is_longest.ensures))))

pub returns : goal.returns
returns c = sym (header_is _ _ (pass (sym c.if-not-is_vertex_count.ensures) (pass (sym c.if-not-is_longest.ensures) none)))
