-- Out by one pattern, home by another (document 02, Five): the place between, which of several is given, and the replies.
use Rattle.std.specs.Prelude.{ℕ, ◌≤◌, ◌<◌, List}
use Rattle.model.specs.Edges.{Graph}
use Rattle.model.specs.Walks.{Runs}

-- "some place m has a walk from the start running the first pattern and a walk from m to the destination running the second, each at least one whole
-- time. Patterns that repeat themselves count as keyed"
pub record Middle (g : Graph) (first second : List ℕ) (s t m : ℕ) : Type 0 where
  pub vertex : m < g.vertices
  pub out : Runs g first s m
  pub home : Runs g second m t

-- yes with a middle, no, refused with a number
pub data TwoAnswered : Type 0 where
  Yes Refused : ℕ → TwoAnswered
  No : TwoAnswered

-- "The lowest such m is given with the yes": of the numbers of P, yes with the least one; no, and there is none
pub data Least (P : ℕ → Type 0) : TwoAnswered → Type 0 where
  least : (m : ℕ) → P m → ((n : ℕ) → P n → m ≤ n) → Least P (Yes m)
  none : ((n : ℕ) → ¬ P n) → Least P No
