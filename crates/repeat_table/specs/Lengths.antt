-- The part of the table that has the patterns of so many labels.
use Rattle.std.specs.Prelude.{◌≡◌, List, map, ℕ, ◌+◌, ◌*◌, ◌^◌, ◌≤◌, length}
use Rattle.model.specs.Limits.{most_label, table_longest}
use Rattle.model.specs.Computed.Patterns.{min_repeat, words}

unfoldable pub lengths : ℕ → List ℕ
lengths labels = map (λ l. length (min_repeat l)) (words labels)

-- there are `count` such patterns, and a line of at most eleven bytes for each fits into so many bytes from `at` on
pub record LinesFit (labels count at bytes : ℕ) : Type 0 where
  pub some : 1 ≤ labels
  pub few : labels ≤ table_longest
  pub all : count ≡ most_label ^ labels
  pub room : at + count * 11 ≤ bytes
