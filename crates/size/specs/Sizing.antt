-- The program size: what it prints for a card.
use Rattle.std.specs.Prelude.{List, ℕ, ◌+◌, replicate}
use Rattle.model.specs.Limits.{most_edges, least_work}
use Rattle.calls.specs.Call.{Memory, lent}
use Rattle.sizing.specs.Sizing.{sized_in}

-- the memory inside the program: 1,024 edge slots, 2^18 index slots, and the work memory to build an index in them
abbrev pub sized_slots : ℕ
sized_slots = 262144

abbrev pub sized_memory : Memory
sized_memory = lent (replicate most_edges 0) (replicate sized_slots 0) (replicate (least_work + sized_slots) 0)

abbrev pub sized : List ℕ → List ℕ
sized card = sized_in sized_memory card
