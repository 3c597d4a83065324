-- The listing program (document 01): what it prints for a card.
use Rattle.std.specs.Prelude.{cond, List, ℕ, ◌+◌, eqb, length, replicate}
use Rattle.model.specs.Limits.{most_edges, least_work}
use Rattle.model.specs.Edges.{standing}
use Rattle.calls.specs.Call.{Memory, lent, Outcome, Returned}
use Rattle.calls.specs.Card.{read_call}
use Rattle.printing.specs.Lines.{listing, refused_line}

-- "leg memory 1,024 slots, index memory 1,024 slots"
abbrev pub listed_slots : ℕ
listed_slots = 1024

abbrev pub listed_memory : Memory
listed_memory = lent (replicate most_edges 0) (replicate listed_slots 0) (replicate (least_work + listed_slots) 0)

-- the whole output after a card reading: header and entries in slot order, or "`refused` and its number"
abbrev pub text : Outcome Returned → List ℕ
text c =
    cond (eqb c.reply.answer 0)
    (listing c.reply.header.size.vertices c.reply.header.size.longest (length (standing c.memory.edges)) (standing c.memory.index))
    (refused_line c.reply.answer)

unfoldable pub printed : List ℕ → List ℕ
printed card = text (read_call card listed_memory)
