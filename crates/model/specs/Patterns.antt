-- Patterns (document 01, "Patterns and walks"): the minimum repeat, the patterns of an index, and the code of a pattern.
use Rattle.std.specs.Prelude.{◌≡◌, List, [], ◌∷◌, ◌++◌, ℕ, zero, suc, ◌+◌, ◌*◌, ◌≤◌, length}
use Rattle.model.specs.Limits.{most_label, digit_unit}
use Rattle.model.specs.Lists.{◌∈◌}

-- l written j times
unfoldable pub times : ℕ → List ℕ → List ℕ
times zero l = []
times (suc j) l = l ++ times j l

-- "A pattern is 1 to k colours": what check 11 lets pass
pub record Keyed (k : ℕ) (l : List ℕ) : Type 0 where
  pub long : 1 ≤ length l
  pub short : length l ≤ k
  pub labels : (c : ℕ) → c ∈ l → (1 ≤ c) × (c ≤ most_label)

-- "Its minimum repeat is the shortest pattern which, written some whole number of times, gives it."
pub record MinRepeat (l m : List ℕ) : Type 0 where
  pub often : (j : ℕ) × (times j m ≡ l)
  pub least : (w : List ℕ) (j : ℕ) → times j w ≡ l → length m ≤ length w

-- the patterns that an index with longest pattern k has entries for: "every L of at most k colours that is its own minimum repeat"
pub record Pattern (k : ℕ) (l : List ℕ) : Type 0 where
  pub keyed : Keyed k l
  pub own : MinRepeat l l

-- "Code reads the colours as hexadecimal digits, first colour leftmost": the digits of l behind those of a
unfoldable pub code_from : ℕ → List ℕ → ℕ
code_from a [] = a
code_from a (c ∷ l) = code_from (a * digit_unit + c) l

abbrev pub code : List ℕ → ℕ
code l = code_from 0 l
