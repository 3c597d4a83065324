-- `backward::turn_round` meets its contract: the front of work memory is sorted, and narrowed to the front of the result.
use mathlib.Core.Path.{◌≡◌, sym}
use native.Mathlib.Omega.{arith}
use lib.ListN.{length, take}
use lib.Seq.{length-take-le}
use Rattle.backward.proofs.Turning.{array_front, narrow_room, narrow_fits, narrowed}
use Rattle.backward.proofs.turn_round.Goals as goal
use Rattle.backward.proofs.turn_round.Goals.{Start}

-- as many numbers of work memory are lent as there are edges
front : (c : Start) → length (take (length c.args.edges.now) c.args.work.now) ≡ length c.args.edges.now
front c = length-take-le _ c.args.work.now (omega (arith, c.requires.0.few, c.requires.1))

pub slice_bounds-sort_turned-end-2 : goal.slice_bounds-sort_turned-end-2
slice_bounds-sort_turned-end-2 c = sym (front (goal.at.slice_bounds-sort_turned-end-2 c).Start)

pub sort_turned-requires : goal.sort_turned-requires
sort_turned-requires c = let start = (goal.at.sort_turned-requires c).Start in (start.requires.0, sym (front start))

pub slice_bounds-narrow-end : goal.slice_bounds-narrow-end
slice_bounds-narrow-end c =
    sym (array_front c.args.edges.now c.requires.0.few)

pub narrow-requires : goal.narrow-requires
narrow-requires c =
    let h = c.requires.0 in
    let s = c.sort_turned.ensures in
    let e = array_front c.args.edges.now h.few in
    (narrow_room h s _ e, narrow_fits h s _ e)

pub returns : goal.returns
returns c =
    let h = c.requires.0 in
    narrowed h c.sort_turned.ensures _ (array_front c.args.edges.now h.few) _ c.narrow.ensures
