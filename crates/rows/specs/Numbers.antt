-- The numbers of a row in work memory.
use Rattle.std.specs.Prelude.{List, ◌≢◌, ℕ, ◌+◌, ◌*◌, ◌<◌, get_or}
use Rattle.rows.specs.Region.{row_numbers}
use Rattle.rows.specs.Rows.{KeepsRows}

-- number i of row r
abbrev pub number : List ℕ → ℕ → ℕ → ℕ
number w r i = get_or w (r * row_numbers + i) 0

-- w' is w with each number i of row r made one that R i holds of, and nothing else changed
pub record Makes (w w' : List ℕ) (r : ℕ) (R : ℕ → ℕ → Type 0) : Type 0 where
  pub keeps : KeepsRows w w' (λ q. q ≢ r)
  pub made : (i : ℕ) → i < row_numbers → R i (number w' r i)
