-- `reachable::marked` meets its contract: the marks of the vertices below v are written.
use mathlib.Core.Path.{◌≡◌}
use lib.ListN.{length, get_or}
use lib.Dec.{eqb}
use Rattle.model.specs.Limits.{most_vertices}
use Rattle.model.specs.Tables.{Tabulates}
use Rattle.reachable.proofs.marked.Given as goal

abbrev pub invariant-loop-v : goal.invariant-loop-v
invariant-loop-v l = (length l.table ≡ most_vertices) × Tabulates l.v l.table (λ u. eqb (get_or l.work u 0) 1)
