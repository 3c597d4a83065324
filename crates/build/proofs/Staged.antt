-- The entries of the renumbered graph, staged.
use mathlib.Core.List.Memᴰ
use mathlib.Core.List.{List, []}
use mathlib.Core.Logic.Iff
use mathlib.Core.Logic.{◌↔◌}
use Prim.Native.Nat.{ℕ, ◌+◌, ◌≤◌, ◌<◌}
use native.Mathlib.Omega.{arith}
use lib.ListN.{length, take, length-take}
use Rattle.std.specs.Prelude.{Option}
use Rattle.model.specs.Limits.{most_vertices, most_edges, most_longest}
use Rattle.model.specs.Lists.{up_to}
use Rattle.model.specs.Entries.{IsEntry}
use Rattle.model.specs.Build.Suffixes.{Beyond}
use Rattle.rows.specs.Region.{step_rows, saved_rows, root_row}
use Rattle.rows.specs.Rows.{InRows, Becomes}
use Rattle.rows.proofs.Rows.{keeps_empty}
use Rattle.renumber.specs.Ranked.{Renumbered}
use Rattle.staging.specs.Stage.{room_of, Stages}
use Rattle.staging.proofs.Adding.{stages_as, stages_since, stages_within}
use Rattle.steps.specs.Filling.{Clears}
use Rattle.suffixes.specs.Suffixes.{PatternEntry, NodeStageable, NodeStages}
use Rattle.suffixes.proofs.Entries.{entries_beyond}
use Rattle.build.specs.Build.{Buildable}
use Rattle.build.specs.Staging.{GraphStages}

module _ {vertices longest : ℕ} {edges order w : List ℕ} (s : Buildable vertices longest edges order (room_of w) w)
    {result slots : List ℕ} (q : Renumbered vertices edges order result slots) where
  abbrev renumbered : List ℕ
  renumbered = take (length edges) result

  -- the entries of the renumbered graph
  abbrev Entry : ℕ → Type 0
  Entry = IsEntry (record { vertices = vertices; longest = longest; edges = renumbered }) (up_to vertices)

  abbrev Kept : ℕ → Type 0
  Kept = InRows saved_rows root_row

  module _ {w₁ w₂ : List ℕ} (c : Clears w w₁ step_rows (most_vertices + most_vertices)) (r : Becomes w₁ w₂ root_row (λ k. k < most_vertices)) where
    -- with any bound on the patterns' length
    pub node_stageable : (live : List ℕ) → most_edges ≤ length live → {k : ℕ} → 1 ≤ k → k ≤ most_longest
        → NodeStageable renumbered slots [] w₂ root_row live k 0
    node_stageable live fits more most =
        record {
          grouped = q.grouped;
          chosen = record { more = more; most = most; labels = λ c m. absurd (Memᴰ.not-nil m) };
          sources = record { long = omega (arith, r.keeps.len, c.keeps.len, s.work); all = λ i a t l. absurd (omega arith) };
          least = omega arith;
          before = omega arith;
          spelled = λ a t l trail. r.row.all a l l;
          quiet = keeps_empty r.keeps (λ k x e. omega (arith, x.most)) c.empty;
          listable = omega (arith, length-take (length edges) result, s.ordered.few, fits);
          taken = omega (arith, r.keeps.len, c.keeps.len, s.work);
        }

    pub graph_stages : {w₃ : List ℕ} {n : Option ℕ} → NodeStages w₂ [] (Beyond longest (PatternEntry renumbered) []) 0 w₃ n
        → GraphStages vertices longest edges order w w₃ n
    graph_stages {w₃} {n} v = record { edges' = renumbered; renumbers = q.renumbers; stages = cleared }
      where
        same : (e : ℕ) → Entry e ↔ Beyond longest (PatternEntry renumbered) [] e
        same = entries_beyond vertices longest renumbered s.bounds.vertices_most q.valid

        whole : Stages w₂ Kept Entry 0 w₃ n
        whole = stages_within (stages_as v.stages (λ e. Iff.symm (same e))) (λ k x. record { least = x.least; most = omega (arith, x.most) })

        rooted : Stages w₁ Kept Entry 0 w₃ n
        rooted = stages_since whole r.keeps (λ k x e. omega (arith, x.most)) (λ k l e. omega arith)

        cleared : Stages w Kept Entry 0 w₃ n
        cleared = stages_since rooted c.keeps (λ k x e. omega (arith, x.least, e.most)) (λ k l e. omega (arith, e.most))
