-- From edge memory that has passed check 3, and a pattern that has passed check 11, to a search.
use Prim.Native.Nat.{ℕ, ◌<◌}
use mathlib.Core.List.{List}
use native.Mathlib.Omega.{arith}
use lib.ListN.{take}
use Rattle.model.specs.Edges.{Bounds}
use Rattle.model.specs.Patterns.{Keyed}
use Rattle.edges.proofs.Memory.{Scans}
use Rattle.frontier.specs.Search.{Searchable}

-- over the n edges that stand in edge memory, from one vertex to another by a pattern as keyed
pub searchable_over : {vertices longest s t n : ℕ} {edges pattern : List ℕ} → Bounds vertices longest → Scans vertices edges n → Keyed longest pattern
    → s < vertices → t < vertices → Searchable vertices (take n edges) pattern s t
searchable_over b e k s t = rw e.front (record {
  vertices_small = b.vertices_most;
  rises = e.rising;
  valid = e.edges;
  short = record { least = k.long; most = omega (arith, k.short, b.longest_most) };
  start = s;
  destination = t;
})
