-- Out by one pattern, home by another (document 02, Five) as a call: its reply. Work memory is changed where a pattern repeats itself, and nothing
-- else ever is.
use Rattle.std.specs.Prelude.{Bool, true, false, ◌&&◌, ◌||◌, cond, List, [], ◌∷◌, ◌++◌, ℕ, leb, length}
use Rattle.model.specs.Limits.{least_work}
use Rattle.model.specs.Lists.{keep, up_to}
use Rattle.model.specs.Middles.{TwoAnswered, Yes, No, Refused}
use Rattle.model.specs.Query.{Answered, Yes as AnsweredYes, No as AnsweredNo, Refused as AnsweredRefused}
use Rattle.model.specs.Computed.Edges.{edge_memory?}
use Rattle.model.specs.Computed.Patterns.{keyed?, once?}
use Rattle.model.specs.Computed.Query.{index_memory?}
use Rattle.calls.specs.Checks.{Check, first_refusal}
use Rattle.calls.specs.Call.{Size, Header, Memory, cleared, Outcome, refusing}
use Rattle.calls.specs.Query.{ask_checks, lacking?, query_call}

-- "would .. be a yes"
abbrev pub yes? : Answered → Bool
yes? AnsweredYes = true
yes? AnsweredNo = false
yes? (AnsweredRefused n) = false

-- of the places that count, in rising order: "The lowest such m is given with the yes."
abbrev pub lowest : List ℕ → TwoAnswered
lowest [] = No
lowest (m ∷ later) = Yes m

-- "Checks are those of two questions, the first pattern's 11 before the second's."
abbrev pub two_checks : Size → (start destination : ℕ) (first second : List ℕ) → List Check
two_checks size start destination first second = ask_checks size start destination first ++ ((11, keyed? size.longest second) ∷ [])

unfoldable pub two_refusal : Size → (start destination : ℕ) (first second : List ℕ) → ℕ
two_refusal size start destination first second = first_refusal (two_checks size start destination first second)

-- "A colour of total 0 in either pattern"
unfoldable pub either_lacks? : (totals first second : List ℕ) → Bool
either_lacks? totals first second = lacking? totals first || lacking? totals second

-- neither "pattern repeats itself"
unfoldable pub both_once? : (first second : List ℕ) → Bool
both_once? first second = once? first && once? second

-- what the call is given: the record, start and destination, both patterns as keyed, and memory
module _ (h : Header) (start destination : ℕ) (first second : List ℕ) (m : Memory) where
  -- "12 follows, and 3 and 4 if either pattern repeats itself"
  abbrev pub memory_checks : List Check
  memory_checks =
      (12, index_memory? h.size.vertices h.size.longest m.index)
      ∷ (3, both_once? first second || edge_memory? h.size.vertices m.edges)
      ∷ (4, both_once? first second || leb least_work (length m.work))
      ∷ []

  -- "m counts where the two single questions, from the start to m and from m to the destination, would both be a yes", each with all that is lent
  abbrev pub counts? : ℕ → Bool
  counts? v = yes? (query_call h start v first m).reply && yes? (query_call h v destination second m).reply

  -- past all checks. Work memory ends zero past check 4, so if a pattern repeats itself
  unfoldable pub by_middles : Outcome TwoAnswered
  by_middles = record { reply = lowest (keep counts? (up_to h.size.vertices)); memory = cond (both_once? first second) m (cleared m) }

  -- "A colour of total 0 in either pattern is then a no; else 12 follows"
  unfoldable pub query_two_call : Outcome TwoAnswered
  query_two_call =
      refusing Refused m (two_refusal h.size start destination first second)
      (cond (either_lacks? h.totals first second) (record { reply = No; memory = m }) (refusing Refused m (first_refusal memory_checks) by_middles))
