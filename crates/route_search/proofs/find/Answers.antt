use Rattle.route_search.proofs.Finding.{paused_begin, paused_found, paused_none}
use Rattle.route_search.proofs.find.Goals as goal

pub loop-k-init : goal.loop-k-init
loop-k-init c =
    let (p, z) = paused_begin c.requires.searchable c.args.work.now c.requires.zeros.0 c.requires.zeros.1 in
    rw c.number.ensures (record { paused = p; unmet = z })

pub returns-then-place-ne0 : goal.returns-then-place-ne0
returns-then-place-ne0 c = paused_found c.requires.searchable c.expand-n.ensures c.if-place-ne0.true

pub returns : goal.returns
returns c = paused_none c.requires.searchable c.loop-k.invariant.paused c.loop-k-test.false c.loop-k.invariant.unmet
