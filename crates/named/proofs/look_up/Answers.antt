-- `named::look_up` meets its contract: the first checks, and then what the lookup of the named edge says.
use mathlib.Core.Path.{sym}
use lib.Seq.{length-take-le}
use Rattle.named.proofs.Naming.{numbered, searchable}
use Rattle.named.proofs.look_up.Goals as goal

pub slice_bounds-find-end : goal.slice_bounds-find-end
slice_bounds-find-end c = sym (length-take-le c.in_ok-standing.standing c.args.edges.now (searchable c.in_ok-standing.ensures).0)

pub number-requires : goal.number-requires
number-requires c = numbered c.in_ok-standing.ensures

pub find-found-requires : goal.find-found-requires
find-found-requires c = (searchable c.in_ok-standing.ensures).1
