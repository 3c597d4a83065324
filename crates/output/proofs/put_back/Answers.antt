use Rattle.model.proofs.Lists.{get_d_in}
use Rattle.output.proofs.put_back.Goals as goal

pub put_one-requires : goal.put_one-requires
put_one-requires c =
    let p = c.requires.0 in
    let h = get_d_in c.args.staged.now _ c.loop-i-test.true in
    (p.sides _ h, (p.owners _ h, p.hubs _ h))
