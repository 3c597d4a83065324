-- `card_edges::are_rising` meets its contract. The invariant: the edges from the i-th on say what all edges say.
use mathlib.Core.Path.{◌≡◌}
use Prim.Native.Nat.{◌*◌}
use lib.ListN.{drop}
use Rattle.model.specs.Limits.{triple_bytes}
use Rattle.calls.specs.Card.{rising_triples?}
use Rattle.card_edges.proofs.are_rising.Given as goal

abbrev pub invariant-loop-i : goal.invariant-loop-i
invariant-loop-i l = rising_triples? l.vertices l.prev (drop (triple_bytes * l.i) l.body) ≡ rising_triples? l.vertices 0 l.body
