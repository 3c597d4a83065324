-- `backward::sort_turned` meets its contract: the turned edges differ, and are narrow enough for the sort.
use mathlib.Core.Path.{sym, subst, ◌∙◌}
use Rattle.sort.specs.Order.{Distinct, HalfSorted}
use Rattle.backward.proofs.Turning.{turned_distinct, turned_half, array_front, sorts_as}
use Rattle.backward.proofs.sort_turned.Goals as goal

pub slice_bounds-sort_upper-end : goal.slice_bounds-sort_upper-end
slice_bounds-sort_upper-end c =
    sym (array_front c.args.edges.now c.requires.0.few)

pub sort_upper-requires : goal.sort_upper-requires
sort_upper-requires c =
    let h = c.requires.0 in
    let e = sym c.turn_each.ensures in (
      c.turn_each.auto.to ∙ sym c.requires.1 ∙ sym (array_front c.args.edges.now h.few),
      (subst Distinct e (turned_distinct h), subst HalfSorted e (turned_half h)),
    )

pub returns : goal.returns
returns c =
    sorts_as c.turn_each.ensures c.sort_upper.ensures
