-- `closed_starts::stage_vertex` meets its contract: the entries of the ends before next_end are staged, and the rows of those earlier than s
-- struck out.
use Prim.Native.Nat.{◌-◌}
use Rattle.model.specs.Limits.{most_vertices}
use Rattle.closed_starts.proofs.Striking.{Taking}
use Rattle.closed_starts.proofs.stage_vertex.Given as goal

abbrev pub invariant-loop-u : goal.invariant-loop-u
invariant-loop-u l = Taking l.initial.w l.s l.code.number l.cnt l.w l.n l.next_end

abbrev pub decreases-loop-u : goal.decreases-loop-u
decreases-loop-u l = most_vertices - l.next_end
