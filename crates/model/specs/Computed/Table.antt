-- The table of document 02, One: the length of the minimum repeat of each pattern of one to four labels, and the place at which each stands.
use Rattle.std.specs.Prelude.{◌≡◌, List, [], ◌∷◌, map, ℕ, ◌+◌, ◌-◌, ◌*◌, ◌<◌, length, get_or}
use Rattle.model.specs.Limits.{most_label, table_longest}
use Rattle.model.specs.Computed.Patterns.{min_repeat, keyed_patterns}

-- "a constant table with the length of the minimum repeat for each of the 4,680 patterns of one to four colours, shorter patterns first and
-- then by code"
unfoldable pub repeat_lengths : List ℕ
repeat_lengths = map (λ l. length (min_repeat l)) (keyed_patterns table_longest)

-- how many patterns are shorter than one of n labels
unfoldable pub shorter : ℕ → ℕ
shorter n = length (keyed_patterns (n - 1))

-- the labels as digits 0 to 7, the first leftmost: those of l behind those of a
unfoldable pub ordinal_from : ℕ → List ℕ → ℕ
ordinal_from a [] = a
ordinal_from a (c ∷ l) = ordinal_from (a * most_label + (c - 1)) l

-- the place at which the lookup finds a pattern: a sum of the shorter ones, and its labels as digits
unfoldable pub place : List ℕ → ℕ
place l = shorter (length l) + ordinal_from 0 l

-- a pattern stands in the list at i, and nowhere else
pub record StandsOnce (patterns : List (List ℕ)) (l : List ℕ) (i : ℕ) : Type 0 where
  pub inside : i < length patterns
  pub there : get_or patterns i [] ≡ l
  pub once : (j : ℕ) → j < length patterns → get_or patterns j [] ≡ l → j ≡ i
