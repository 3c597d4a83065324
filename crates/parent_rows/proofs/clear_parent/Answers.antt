-- `parent_rows::clear_parent` meets its contract: the vertices whose rows the word has filled have an edge of its first label.
use mathlib.Core.Path.{◌≡◌, sym}
use Prim.Native.Nat.{◌<◌}
use lib.ListN.{length, get_or}
use Rattle.std.proofs.lemmas.Option.{get_or_from_slice_get, slice_get_within}
use Rattle.parent_rows.proofs.Turning.{label_range, parent_clearable}
use Rattle.parent_rows.proofs.clear_parent.Goals as goal
use Rattle.parent_rows.proofs.clear_parent.Goals.{In-Some}

some : (c : In-Some) → 0 < length c.args.word.now
some c = slice_get_within c.args.word.now 0 c.in-Some.field-0.now (sym c.in-Some.ensures.value)

first : (c : In-Some) → get_or c.args.word.now 0 0 ≡ c.in-Some.field-0.now
first c = get_or_from_slice_get c.args.word.now 0 c.in-Some.field-0.now 0 (sym c.in-Some.ensures.value)

pub labelled-requires : goal.labelled-requires
labelled-requires c =
    let arm = (goal.at.labelled-requires c).In-Some in
    (c.requires.grouped, rw (first arm) at (label_range c.requires.word 0 (some arm)))

pub clear_sources-requires : goal.clear_sources-requires
clear_sources-requires c =
    let arm = (goal.at.clear_sources-requires c).In-Some in
    parent_clearable c.requires (some arm) (rw (← first arm) at c.labelled.ensures)
