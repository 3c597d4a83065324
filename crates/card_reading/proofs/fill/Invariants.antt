-- `card_reading::fill` meets its contract. The invariant: the first i slots hold the first i edges, and the others are as they came.
use mathlib.Core.List.{◌++◌}
use lib.ListN.{length, drop}
use Rattle.model.specs.Limits.{head_bytes}
use Rattle.memory.proofs.Mix.{Mixed}
use Rattle.calls.specs.Card.{edges_of}
use Rattle.card_reading.proofs.fill.Given as goal

abbrev pub invariant-loop-i : goal.invariant-loop-i
invariant-loop-i l = Mixed (edges_of (drop head_bytes l.card) ++ drop (length (edges_of (drop head_bytes l.card))) l.initial.edges) l.initial.edges l.edges l.i
