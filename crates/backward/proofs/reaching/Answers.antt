-- `backward::reaching` meets its contract: it is a level search over the edges turned round, by the pattern from its end.
use native.Mathlib.Omega.{arith}
use Rattle.backward.proofs.Searching.{round_long, back_long, turnable, searchable_back, tells_to}
use Rattle.backward.proofs.reaching.Goals as goal

pub turn_round-round-requires : goal.turn_round-round-requires
turn_round-round-requires c =
    let p = c.requires.searchable in
    (turnable p.0 p.1.0, p.1.1)

pub slice_bounds-reached-end : goal.slice_bounds-reached-end
slice_bounds-reached-end c =
    round_long c.args.edges.now c.turn_round-round.ensures

pub slice_bounds-reached-end-2 : goal.slice_bounds-reached-end-2
slice_bounds-reached-end-2 c =
    back_long c.args.pattern.now c.reversed-back.ensures

pub reached-requires : goal.reached-requires
reached-requires c =
    let p = c.requires.searchable in
    (searchable_back p.0 c.turn_round-round.ensures c.reversed-back.ensures, omega (arith, p.1.1, c.turn_round-round.auto.work))

pub returns : goal.returns
returns c =
    tells_to c.requires.searchable.0 c.turn_round-round.ensures c.reversed-back.ensures c.requires.labelled c.reached.ensures
