-- Patterns as they are computed: check 11, the minimum repeat, and the lists of all patterns and of those of an index.
use Rattle.std.specs.Prelude.{◌≡◌, Bool, ◌&&◌, cond, List, [], ◌∷◌, ◌++◌, map, ℕ, zero, suc, ◌/◌, eqb, length, take}
use Rattle.model.specs.Limits.{most_label, most_longest}
use Rattle.model.specs.Lists.{keep, from}
use Rattle.model.specs.Patterns.{times, Keyed}
use Rattle.model.specs.Computed.Lists.{all?, same?, within?, spread}
use Rattle.model.specs.Computed.Edges.{label?}

-- `Keyed` as a test
unfoldable pub keyed? : ℕ → List ℕ → Bool
keyed? k l = within? 1 k (length l) && all? label? l

-- "It is found by a recursion that tries one length after another from 1": d is tried next, and f lengths are left
unfoldable pub repeat_from : ℕ → ℕ → List ℕ → List ℕ
repeat_from zero d l = l
repeat_from (suc f) d l = let later = repeat_from f (suc d) l in cond (same? (times (length l / d) (take d l)) l) (take d l) later

unfoldable pub min_repeat : List ℕ → List ℕ
min_repeat l = repeat_from (length l) 1 l

-- the length of the minimum repeat of a pattern of at most 4 labels, and 0 of anything else
unfoldable pub folded_length : List ℕ → ℕ
folded_length l = cond (keyed? most_longest l) (length (min_repeat l)) 0

-- document 02, Two: "how many times it was written", and 0 of anything else
unfoldable pub times_written : List ℕ → ℕ
times_written l = cond (keyed? most_longest l) (length l / length (min_repeat l)) 0

-- "Where that count is one"
unfoldable pub once? : List ℕ → Bool
once? l = eqb (times_written l) 1

-- what the folding of a pattern promises: that length and that count; the pattern's first labels, so many, are its minimum repeat, and written so
-- often they give the pattern
pub record Folds (pattern : List ℕ) (size count : ℕ) : Type 0 where
  pub is : size ≡ folded_length pattern
  pub often : count ≡ times_written pattern
  pub labels : Keyed most_longest pattern → take size pattern ≡ min_repeat pattern
  pub gives : Keyed most_longest pattern → times count (take size pattern) ≡ pattern

-- a pattern that is its own minimum repeat
unfoldable pub own? : List ℕ → Bool
own? l = same? (min_repeat l) l

-- the words of m labels, by rising code
unfoldable pub words : ℕ → List (List ℕ)
words zero = [] ∷ []
words (suc m) = spread (λ c. map (λ w. c ∷ w) (words m)) (from 1 most_label)

-- all patterns of 1 to k labels, "shorter patterns first and then by code"
unfoldable pub keyed_patterns : ℕ → List (List ℕ)
keyed_patterns zero = []
keyed_patterns (suc k) = keyed_patterns k ++ words (suc k)

-- and those of them that an index has entries for
unfoldable pub patterns : ℕ → List (List ℕ)
patterns k = keep own? (keyed_patterns k)
