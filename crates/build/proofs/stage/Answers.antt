-- `build::stage` meets its contract: renumbered, and staged from the empty word on.
use mathlib.Core.Path.{sym}
use Prim.Native.Nat.{ℕ}
use lib.ListN.{length, replicate, length-replicate}
use lib.Seq.{length-take-le}
use native.Mathlib.Omega.{arith}
use Rattle.model.specs.Limits.{most_edges}
use Rattle.build.proofs.Staged.{node_stageable, graph_stages}
use Rattle.build.proofs.stage.Goals as goal

pub clear_rows-requires : goal.clear_rows-requires
clear_rows-requires c = omega (arith, c.requires.work)

pub slice_bounds-search-end : goal.slice_bounds-search-end
slice_bounds-search-end c =
    sym (length-take-le (length c.args.edges.now) c.renumber-slots.new.res
    (omega (arith, c.renumber-slots.auto.res, length-replicate {A = ℕ} most_edges 0, c.requires.ordered.few)))

pub node-requires : goal.node-requires
node-requires c =
    let pre = c.requires in
    rw c.empty.ensures
    (node_stageable pre c.renumber-slots.ensures c.clear_rows.ensures c.fill.ensures
    (replicate most_edges 0)
    (omega (arith, length-replicate {A = ℕ} most_edges 0))
    (omega (arith, pre.bounds.longest_least))
    (omega (arith, pre.bounds.longest_most)))

pub returns : goal.returns
returns c =
    graph_stages c.requires c.renumber-slots.ensures c.clear_rows.ensures c.fill.ensures (rw c.empty.ensures at c.node.ensures)
