-- What document 02, Five, says of out by one pattern and home by another, worked out on small layouts.
use Rattle.std.specs.Prelude.{◌≡◌, List, [], ◌∷◌, ℕ, replicate}
use Rattle.model.specs.Limits.{least_work}
use Rattle.model.specs.Middles.{TwoAnswered, Yes, No, Refused}
use Rattle.calls.specs.Call.{lent, Outcome}
use Rattle.calls.specs.QueryTwo.{query_two_call}
use Rattle.worked_examples.specs.Trials.{TrialLayout, A, slots_a, damaged_a, one_leg, two_ways, entries_of, trial_header}

-- layout A with edge memory that does not rise
unfoldable pub turned_a : TrialLayout
turned_a = record { vertices = 3; longest = 2; edges = 4354 ∷ 257 ∷ 4608 ∷ [] }

-- the call on a layout with its record, its edge memory, and that index and work memory
abbrev pub asked_with : TrialLayout → (index work : List ℕ) (start destination : ℕ) (first second : List ℕ) → Outcome TwoAnswered
asked_with y index work s t first second = query_two_call (trial_header y) s t first second (lent y.edges index work)

-- with the index that the edges determine, and the least work memory that a search may have
abbrev pub asked : TrialLayout → (start destination : ℕ) (first second : List ℕ) → Outcome TwoAnswered
asked y s t first second = asked_with y (entries_of y) (replicate least_work 7) s t first second

pub record TwoTrials : Type 0 where
  -- layout A: over 1; over 0, the way out ending where it began; and no way home
  pub over_1 : (asked A 0 0 (1 ∷ []) (2 ∷ [])).reply ≡ Yes 1
  pub over_0 : (asked A 0 2 (1 ∷ 2 ∷ []) (1 ∷ [])).reply ≡ Yes 0
  pub no_way_home : (asked A 0 0 (1 ∷ []) (1 ∷ [])).reply ≡ No
  -- "The lowest such m is given with the yes.": of 1 and 2
  pub lowest_given : (asked two_ways 0 3 (1 ∷ []) (1 ∷ [])).reply ≡ Yes 1
  -- "Patterns that repeat themselves count as keyed.": no walk has two edges, so no place is reached
  pub keyed_twice : (asked one_leg 0 1 (1 ∷ 1 ∷ []) (1 ∷ [])).reply ≡ No
  -- work memory ends zero for such a pattern, and as found for others
  pub work_zero : (asked one_leg 0 1 (1 ∷ 1 ∷ []) (1 ∷ [])).memory.work ≡ replicate least_work 0
  pub work_found : (asked A 0 0 (1 ∷ []) (2 ∷ [])).memory.work ≡ replicate least_work 7
  -- "A colour of total 0 in either pattern is then a no; else 12 follows"
  pub lacking_second : (asked_with A damaged_a [] 0 1 (1 ∷ []) (3 ∷ [])).reply ≡ No
  pub lacking_first : (asked_with A damaged_a [] 0 1 (3 ∷ []) (1 ∷ [])).reply ≡ No
  pub then_12 : (asked_with A damaged_a [] 0 0 (1 ∷ []) (2 ∷ [])).reply ≡ Refused 12
  -- "the first pattern's 11 before the second's": both come before that no
  pub first_11 : (asked_with A damaged_a [] 0 0 [] (3 ∷ [])).reply ≡ Refused 11
  pub second_11 : (asked_with A damaged_a [] 0 0 (3 ∷ []) []).reply ≡ Refused 11
  -- "and 3 and 4 if either pattern repeats itself": 12 before both, then 3 by the first pattern and 4 by the second; if neither does, no check
  pub repeating_12 : (asked_with turned_a damaged_a [] 0 0 (1 ∷ 1 ∷ []) (1 ∷ 1 ∷ [])).reply ≡ Refused 12
  pub repeating_3 : (asked_with turned_a slots_a [] 0 0 (1 ∷ 1 ∷ []) (2 ∷ [])).reply ≡ Refused 3
  pub repeating_4 : (asked_with A slots_a [] 0 0 (1 ∷ []) (2 ∷ 2 ∷ [])).reply ≡ Refused 4
  pub once_unread : (asked_with turned_a slots_a [] 0 0 (1 ∷ []) (2 ∷ [])).reply ≡ Yes 1
