-- The plain check (level search) as a call: its reply. It changes work memory alone.
use Rattle.std.specs.Prelude.{List, [], ◌∷◌, ℕ, leb, length}
use Rattle.model.specs.Limits.{least_work}
use Rattle.model.specs.Edges.{standing}
use Rattle.model.specs.States.{Reply, Refused}
use Rattle.model.specs.Computed.Edges.{edge_memory?}
use Rattle.model.specs.Computed.Patterns.{keyed?}
use Rattle.model.specs.Computed.Levels.{level_reply}
use Rattle.calls.specs.Checks.{vertices?, longest?, ends?, first_refusal}
use Rattle.calls.specs.Call.{Size, graph_of, Memory, cleared, Outcome, refusing}

-- what the call is given: the record's size (it does not look at totals), start and destination, and the pattern as keyed
module _ (size : Size) (start destination : ℕ) (pattern : List ℕ) where
  -- "Plain check 1 2 3 4 10 11."
  unfoldable pub search_refusal : Memory → ℕ
  search_refusal m =
      first_refusal (
      (1, vertices? size.vertices)
      ∷ (2, longest? size.longest)
      ∷ (3, edge_memory? size.vertices m.edges)
      ∷ (4, leb least_work (length m.work))
      ∷ (10, ends? size.vertices start destination)
      ∷ (11, keyed? size.longest pattern)
      ∷ []
      )

  -- "a number of levels is allowed with each check"; "Accepted calls that use work memory leave it zero as well." The pattern is searched as keyed:
  -- "The plain check no longer folds." (document 02, Two)
  unfoldable pub search_call : (limit : ℕ) → Memory → Outcome Reply
  search_call limit m =
      refusing Refused m (search_refusal m)
      (record {
        reply = level_reply (graph_of size (standing m.edges)) pattern start destination limit;
        memory = cleared m;
      })
