-- What the functions that read a card find in its bytes and need of them.
use Rattle.std.specs.Prelude.{◌≡◌, Result, Ok, Err, List, ℕ, ◌+◌, ◌*◌, ◌≤◌, length}
use Rattle.model.specs.Limits.{head_bytes, triple_bytes}
use Rattle.model.specs.declared.Refusal.{Refusal}
use Rattle.model.specs.Replies.{number_of}
use Rattle.calls.specs.Call.{Size}
use Rattle.calls.specs.Card.{size_of, count_of, card_refusal}
use Rattle.card_reading.specs.declared.CardLayout.{CardLayout}

-- what a card says before its edges: its size, and how many edges it has
pub record LayoutOf (card : List ℕ) (layout : CardLayout) : Type 0 where
  pub size_is : layout.size ≡ size_of card
  pub count : layout.edges ≡ count_of card

-- all checks of the card alone have passed: its size, and the number of its edges
pub record CardPasses (card : List ℕ) (size : Size) (n : ℕ) : Type 0 where
  pub is : card_refusal card ≡ 0
  pub size_is : size ≡ size_of card
  pub count : n ≡ count_of card

abbrev pub CardChecks : List ℕ → Result CardLayout Refusal → Type 0
CardChecks card (Ok layout) = CardPasses card layout.size layout.edges
CardChecks card (Err r) = card_refusal card ≡ number_of r

-- the n edges of a card have slots
pub record Fillable (card : List ℕ) (n : ℕ) (edges : List ℕ) : Type 0 where
  pub whole : length card ≡ head_bytes + triple_bytes * n
  pub room : n ≤ length edges
