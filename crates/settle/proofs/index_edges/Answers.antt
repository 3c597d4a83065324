-- `settle::index_edges` meets its contract: the order is counted in the front of work memory, and the index is built in it.
use native.Mathlib.Nat.{le_refl}
use Rattle.model.specs.Limits.{most_vertices}
use Rattle.settle.proofs.Indexing.{room_front, countable, buildable, indexes}
use Rattle.settle.proofs.index_edges.Goals as goal

pub slice_bounds-counted-end-2 : goal.slice_bounds-counted-end-2
slice_bounds-counted-end-2 c = room_front c.requires

pub counted-requires : goal.counted-requires
counted-requires c = countable c.requires (le_refl most_vertices)

pub build-requires : goal.build-requires
build-requires c =
    buildable c.requires c.counted.new.work (le_refl most_vertices) c.counted.ensures c.counted.auto.work

pub returns : goal.returns
returns c =
    indexes c.requires c.counted.new.work (le_refl most_vertices) c.counted.ensures c.counted.auto.work c.build.ensures
