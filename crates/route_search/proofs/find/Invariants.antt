-- `route_search::find` meets its contract: the first k nodes are taken, and none of them led to (t, 0).
use mathlib.Core.Path.{◌≡◌}
use Prim.Native.Nat.{suc, ◌-◌}
use lib.ListN.{get_or}
use Rattle.model.specs.Computed.Edges.{bare}
use Rattle.model.specs.Computed.Levels.{most_states}
use Rattle.route_search.specs.Work.{Paused}
use Rattle.route_search.proofs.find.Given as goal

abbrev pub invariant-loop-k : goal.invariant-loop-k
invariant-loop-k l = record {
  paused : Paused (bare l.search.vertices l.search.edges.now) l.search.pattern.now l.search.start l.work l.n l.k;
  unmet : get_or l.work l.search.destination 0 ≡ 0;
}

abbrev pub decreases-loop-k : goal.decreases-loop-k
decreases-loop-k l = suc most_states - l.k
