-- Lighting the route (document 02, Three) as a call: its reply, and what walk memory, which is its output, holds then. It changes work memory too.
use Rattle.std.specs.Prelude.{cond, List, [], ◌∷◌, ◌++◌, ℕ, leb, length, drop}
use Rattle.model.specs.Lists.{zeroed}
use Rattle.model.specs.Edges.{standing}
use Rattle.model.specs.Routes.{Routed, Yes, No, Refused}
use Rattle.model.specs.Computed.Routes.{route_of}
use Rattle.calls.specs.Call.{Size, graph_of, Memory, cleared, Outcome, refusing}
use Rattle.calls.specs.Search.{search_refusal}

-- "one slot a leg holding that leg as leg memory writes it", "the slots behind it are untouched"
abbrev pub lit : List ℕ → Memory → Memory
lit es m = record { edges = m.edges; index = m.index; work = zeroed m.work; output = es ++ drop (length es) m.output }

-- what the route's edges, none where there is no route, come to: "the reply gives the number of legs"; "A no writes nothing"; "18, walk memory
-- shorter than that walk, checked last; it leaves work memory zero"
unfoldable pub lighting : List ℕ → Memory → Outcome Routed
lighting [] m = record { reply = No; memory = cleared m }
lighting (x ∷ es) m =
    cond (leb (length (x ∷ es)) (length m.output))
    (record { reply = Yes (length (x ∷ es)); memory = lit (x ∷ es) m })
    (record { reply = Refused 18; memory = cleared m })

-- "The checks are the plain check's."
unfoldable pub route_call : (size : Size) (start destination : ℕ) (pattern : List ℕ) → Memory → Outcome Routed
route_call size start destination pattern m =
    refusing Refused m (search_refusal size start destination pattern m)
    (lighting (route_of (graph_of size (standing m.edges)) pattern start destination) m)
