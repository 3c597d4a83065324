-- `level_search::levels` meets its contract: the levels before c are built, and the reply is what the levels from c on give.
use mathlib.Core.Path.{◌≡◌}
use Prim.Native.Nat.{ℕ, ◌+◌}
use Rattle.level_search.proofs.Built.{LevelsBuilt}
use Rattle.level_search.proofs.levels.Given as goal

abbrev pub invariant-loop-c : goal.invariant-loop-c
invariant-loop-c l = record {
  built : ℕ;
  next : l.c ≡ built + 1;
  levels : LevelsBuilt l.search.vertices l.search.edges.now l.search.pattern.now l.search.start l.search.destination l.limit l.work l.level.start l.level.end built;
}
