-- `card_writing::write_edges` meets its contract. The invariant: the first i edges are written, and the bytes behind them are as they came.
use Prim.Native.Nat.{◌*◌}
use Rattle.model.specs.Limits.{triple_bytes}
use Rattle.memory.proofs.Mix.{Mixed}
use Rattle.card_writing.proofs.Writing.{bytes_over}
use Rattle.card_writing.proofs.write_edges.Given as goal

abbrev pub invariant-loop-i : goal.invariant-loop-i
invariant-loop-i l = Mixed (bytes_over l.edges l.initial.output) l.initial.output l.output (triple_bytes * l.i)
