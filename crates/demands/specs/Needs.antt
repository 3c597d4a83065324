-- How much memory the layout of a card needs: what the program `size` tells.
use Rattle.std.specs.Prelude.{◌≡◌, List, ℕ, ◌<◌, length, drop}
use Rattle.model.specs.Limits.{head_bytes}
use Rattle.model.specs.Computed.Entries.{determined}
use Rattle.calls.specs.Call.{graph_of, Memory}
use Rattle.calls.specs.Card.{size_of, count_of, edges_of, read_call}
use Rattle.demands.specs.Demand2.{Roomy}

-- "entries needed": those that the card's size and edges determine
abbrev pub needed : List ℕ → ℕ
needed card = length (determined (graph_of (size_of card) (edges_of (drop head_bytes card))))

-- Whatever the memory holds that the card is read into: with room for n entries it is accepted. With room for as many entries as it has index slots,
-- and these fewer than n, it is refused with 13.
pub record Needs (card : List ℕ) (n : ℕ) : Type 0 where
  pub enough : (m : Memory) → Roomy m (count_of card) n → (read_call card m).reply.answer ≡ 0
  pub short : (m : Memory) → Roomy m (count_of card) (length m.index) → length m.index < n → (read_call card m).reply.answer ≡ 13

-- every card that is accepted with some memory
abbrev pub CardNeeds : Type 0
CardNeeds = (card : List ℕ) (m : Memory) → (read_call card m).reply.answer ≡ 0 → Needs card (needed card)
