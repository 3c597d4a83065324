-- `closure::close_row` meets its contract: row a has the steps of every vertex that is not open, and fewer vertices are open each turn.
use Rattle.model.specs.Limits.{most_vertices}
use Rattle.rows.specs.Region.{open_row}
use Rattle.rows.specs.Rows.{cell}
use Rattle.closure.proofs.Sums.{sum}
use Rattle.closure.proofs.Looked.{Looked}
use Rattle.closure.proofs.close_row.Given as goal

abbrev pub invariant-loop-p : goal.invariant-loop-p
invariant-loop-p l = Looked l.initial.w l.w l.a

abbrev pub decreases-loop-p : goal.decreases-loop-p
decreases-loop-p l = sum (cell l.w open_row) most_vertices
