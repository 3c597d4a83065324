-- What the full question comes to past the checks that come before all memory, for a pattern that is written once and for one that repeats itself.
use Rattle.std.specs.Prelude.{List, [], ◌∷◌, ℕ, leb, length}
use Rattle.model.specs.Limits.{least_work}
use Rattle.model.specs.Query.{Answered, Refused}
use Rattle.model.specs.Computed.Edges.{edge_memory?}
use Rattle.model.specs.Computed.Query.{index_memory?}
use Rattle.calls.specs.Checks.{Check, first_refusal}
use Rattle.calls.specs.Call.{Size, Memory, Outcome, refusing}
use Rattle.calls.specs.Query.{by_index, by_search}

module _ (size : Size) (start destination : ℕ) (pattern : List ℕ) where
  -- "Where that count is one, the index replies as before."
  unfoldable pub asked_call : Memory → Outcome Answered
  asked_call m =
      refusing Refused m (first_refusal ((12, index_memory? size.vertices size.longest m.index) ∷ [])) (by_index size start destination pattern m)

  -- "checks 3 and 4 follow 12, for such a pattern only"
  abbrev pub later_checks : Memory → List Check
  later_checks m = (3, edge_memory? size.vertices m.edges) ∷ (4, leb least_work (length m.work)) ∷ []

  unfoldable pub searched_call : Memory → Outcome Answered
  searched_call m =
      refusing Refused m (first_refusal ((12, index_memory? size.vertices size.longest m.index) ∷ later_checks m)) (by_search size start destination pattern m)
