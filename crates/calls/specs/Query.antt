-- The question (query) as a call: its reply. Work memory is changed for a pattern that repeats itself, and nothing else ever is.
use Rattle.std.specs.Prelude.{Bool, true, false, ◌||◌, cond, List, [], ◌∷◌, ◌++◌, ℕ, ◌-◌, eqb, leb, length, get_or}
use Rattle.model.specs.Limits.{least_work}
use Rattle.model.specs.Lists.{any?}
use Rattle.model.specs.Edges.{standing}
use Rattle.model.specs.Query.{Answered, Yes, No, Refused}
use Rattle.model.specs.Computed.Edges.{edge_memory?}
use Rattle.model.specs.Computed.Patterns.{keyed?, once?}
use Rattle.model.specs.Computed.Levels.{runs?}
use Rattle.model.specs.Computed.Query.{index_memory?, answers?}
use Rattle.calls.specs.Checks.{vertices?, longest?, ends?, Check, first_refusal}
use Rattle.calls.specs.Call.{Size, Header, graph_of, Memory, cleared, Outcome, refusing}

abbrev pub saying : Bool → Answered
saying true = Yes
saying false = No

-- what the call is given: the record's size, start and destination, and the pattern as keyed
module _ (size : Size) (start destination : ℕ) (pattern : List ℕ) where
  -- "Question 1 2 10 11": the checks that come before all memory
  abbrev pub ask_checks : List Check
  ask_checks =
      (1, vertices? size.vertices)
      ∷ (2, longest? size.longest)
      ∷ (10, ends? size.vertices start destination)
      ∷ (11, keyed? size.longest pattern)
      ∷ []

  unfoldable pub ask_refusal : ℕ
  ask_refusal = first_refusal ask_checks

  -- and memory
  module _ (m : Memory) where
    -- then "12"; "checks 3 and 4 follow 12, for such a pattern only" that repeats itself (document 02, Two)
    unfoldable pub full_refusal : ℕ
    full_refusal =
        first_refusal (
        ask_checks
        ++ ((12, index_memory? size.vertices size.longest m.index)
        ∷ (3, once? pattern || edge_memory? size.vertices m.edges)
        ∷ (4, once? pattern || leb least_work (length m.work))
        ∷ [])
        )

    -- "Where that count is one, the index replies as before."
    abbrev pub by_index : Outcome Answered
    by_index = record { reply = saying (answers? size.vertices m.index pattern start destination); memory = m }

    -- "Otherwise the reply is yes exactly when some walk spells the keyed pattern itself one or more whole times"; "Past check 4 work memory ends zero"
    abbrev pub by_search : Outcome Answered
    by_search = record { reply = saying (runs? (graph_of size (standing m.edges)) pattern start destination); memory = cleared m }

    -- "the full reply": the question without the rule of totals
    unfoldable pub full_call : Outcome Answered
    full_call = refusing Refused m full_refusal (cond (once? pattern) by_index by_search)

-- "a colour whose total is 0" in the record as given (document 02, Four)
unfoldable pub lacking? : (totals pattern : List ℕ) → Bool
lacking? totals pattern = any? (λ c. eqb (get_or totals (c - 1) 0) 0) pattern

-- The question: with such a colour it "is a no without reading the index, and checks 12, 3 and 4 are skipped for it"
unfoldable pub query_call : Header → (start destination : ℕ) (pattern : List ℕ) → Memory → Outcome Answered
query_call h start destination pattern m =
    refusing Refused m (ask_refusal h.size start destination pattern)
    (cond (lacking? h.totals pattern) (record { reply = No; memory = m }) (full_call h.size start destination pattern m))
