-- `settle::settle` meets its contract: the index built, or edge memory restored; work memory zeroed either way.
use mathlib.Core.Path.{◌≡◌}
use mathlib.Core.Bool.{true, false}
use Prim.Native.Nat.{ℕ}
use Rattle.std.proofs.Common.{rules, Option, Some, None, is_some}
use Rattle.settle.proofs.Settling.{edges_front, indexable, cleared, restored_narrow, settles_short, settles_fits}
use Rattle.settle.proofs.settle.Goals as goal
use Rattle.settle.proofs.settle.Goals.{then-is_none, else-is_none}

-- what was built is told by the test
built_none : {A : Type 0} {n : ℕ} {r : Option ℕ} → r ≡ Some n → is_some r ≡ false → A
built_none e h = absurd (let z : true ≡ false = rw e at h in cc)

built_some : {A : Type 0} {r : Option ℕ} → r ≡ None → is_some r ≡ true → A
built_some e h = absurd (let z : false ≡ true = rw e at h in cc)

pub slice_bounds-index_edges-end-2 : goal.slice_bounds-index_edges-end-2
slice_bounds-index_edges-end-2 c = edges_front c.requires

pub index_edges-built-requires : goal.index_edges-built-requires
index_edges-built-requires c = indexable c.requires

pub narrow-requires : goal.narrow-requires
narrow-requires c =
    let saved = c.index_edges-built.ensures.saved in
    (search rules, restored_narrow c.requires saved)

pub returns-in-Some : goal.returns-in-Some
returns-in-Some c =
    let indexed = c.index_edges-built.ensures in
    elim c.if-is_none.branch [
      | then-is_none w ↦ built_none c.in-Some.is w.if-is_none.ensures
      | else-is_none w ↦ rw w.edges-is (settles_fits c.requires (cleared indexed.saved (c.fill.ensures.after (λ y e. e))) (rw c.in-Some.is at indexed))
    ]

pub returns-in-None : goal.returns-in-None
returns-in-None c =
    let indexed = c.index_edges-built.ensures in
    elim c.if-is_none.branch [
      | then-is_none w ↦
          rw w.edges-is (settles_short c.requires (cleared indexed.saved (c.fill.ensures.after (λ y e. e))) (rw c.in-None.is at indexed) w.narrow.ensures)
      | else-is_none w ↦ built_some c.in-None.is w.if-is_none.ensures
    ]
