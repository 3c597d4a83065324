-- What is told of a card that is read into lent memory. `CardNeeds` (demands) says what the line is good for.
use Rattle.std.specs.Prelude.{cond, List, ℕ, zero, suc, ◌+◌, ◌^◌, ◌≤◌, ◌<◌, eqb, length}
use Rattle.model.specs.Limits.{most_edges, least_work}
use Rattle.calls.specs.Call.{Memory}
use Rattle.calls.specs.Card.{size_of, count_of, read_call}
use Rattle.demands.specs.Needs.{needed}
use Rattle.printing.specs.Lines.{bytes_of, refused_line, size_line, over_line}

-- a layout that needs more entries than there are slots is told so; any other refusal is told by its number
abbrev pub refusal_line : (slots : ℕ) → ℕ → List ℕ
refusal_line slots n = cond (eqb n 13) (over_line slots) (refused_line n)

-- the line, by the answer of reading the card
abbrev pub line : (slots answer : ℕ) → (card : List ℕ) → List ℕ
line slots zero card = size_line (size_of card).vertices (size_of card).longest (count_of card) (needed card)
line slots (suc n) card = refusal_line slots (suc n)

unfoldable pub sized_in : Memory → List ℕ → List ℕ
sized_in m card = line (length m.index) (read_call card m).reply.answer card

-- memory whose bytes can be told in 32 bits
pub record Measurable (edges index : List ℕ) : Type 0 where
  pub edges_few : length edges ≤ most_edges
  pub index_few : bytes_of (least_work + length index) < 2 ^ 32
