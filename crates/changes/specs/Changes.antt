-- What the checks of a card reading hand on, and what it leaves.
use Rattle.std.specs.Prelude.{◌≡◌, Result, Ok, Err, List, ℕ}
use Rattle.model.specs.Replies.{number_of}
use Rattle.model.specs.declared.Refusal.{Refusal}
use Rattle.calls.specs.Call.{Size, Memory, Meets}
use Rattle.calls.specs.Card.{size_of, count_of, read_refusal, read_change}
use Rattle.card_reading.specs.declared.CardLayout.{CardLayout}

-- all checks of a card reading have passed: the card's size, and the number of its edges
pub record Reads (card : List ℕ) (m : Memory) (size : Size) (n : ℕ) : Type 0 where
  pub is : read_refusal card m ≡ 0
  pub size_is : size ≡ size_of card
  pub count : n ≡ count_of card

abbrev pub Readings : (card : List ℕ) → Memory → Result CardLayout Refusal → Type 0
Readings card m (Ok l) = Reads card m l.size l.edges
Readings card m (Err r) = read_refusal card m ≡ number_of r

-- a card reading: its answer and memory afterwards are the definition's, and if it is accepted it tells the card's size
abbrev pub ReadsCard : (card : List ℕ) (m : Memory) → Result Size Refusal → (m' : Memory) → Type 0
ReadsCard card m (Ok size) m' = Meets (read_change card m) 0 m' × (size_of card ≡ size)
ReadsCard card m (Err r) m' = Meets (read_change card m) (number_of r) m'
