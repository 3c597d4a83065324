-- Replies as numbers, for the benchmark.
use Rattle.std.specs.Prelude.{◌≡◌, Option, Some, None, List, ℕ, length}
use Rattle.model.specs.Edges.{Graph}
use Rattle.model.specs.Query.{Answered, Yes, No, Refused}
use Rattle.calls.specs.Call.{Outcome}
use Rattle.build.specs.Build.{built_of, index_of, Saved}

abbrev pub built_number : Option ℕ → ℕ
built_number (Some n) = n
built_number None = 18446744073709551615

abbrev pub answer_number : Answered → ℕ
answer_number No = 0
answer_number Yes = 1
answer_number (Refused n) = 2

-- what build promises, with its reply as a number
pub record BuildsNumber (g : Graph) (order index w index' w' : List ℕ) (r : ℕ) : Type 0 where
  pub reply : r ≡ built_number (built_of g order (length index))
  pub index_is : index' ≡ index_of g order index
  pub saved : Saved w w'

-- what the query promises, with its reply as a number: edges and index are lent for reading only
pub record QueriesNumber (c : Outcome Answered) (r : ℕ) (work : List ℕ) : Type 0 where
  pub reply_is : r ≡ answer_number c.reply
  pub work_after : work ≡ c.memory.work
