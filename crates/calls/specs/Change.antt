-- Opening, laying (insertion) and lifting (removal) as calls on lent memory.
use Rattle.std.specs.Prelude.{Bool, not, cond, List, [], ◌∷◌, ◌++◌, ℕ, zero, suc, ◌+◌, ltb, leb, length}
use Rattle.model.specs.Limits.{most_edges, least_work}
use Rattle.model.specs.Lists.{mem?, filled, zeroed}
use Rattle.model.specs.Edges.{edge_number, standing, totals_of}
use Rattle.model.specs.Computed.Edges.{label?, edge_memory?, insert_edge, remove_edge}
use Rattle.model.specs.Computed.Entries.{determined}
use Rattle.calls.specs.Checks.{vertices?, longest?, ends?, Check, first_refusal}
use Rattle.calls.specs.Call.{Size, Header, graph_of, Memory, cleared, Outcome, Returned, refusing}

-- the record that a changing call hands back with an answer: a refusal is "returned with the record as given"; accepted, it has the totals "recounted
-- from the legs" that then stand (document 02, Four), whatever they were
abbrev pub handed : ℕ → (given : Header) → Size → (edges : List ℕ) → Header
handed zero given size edges = record { size = size; totals = totals_of (standing edges) }
handed (suc n) given size edges = given

-- what a changing call returns: that record, and its answer
abbrev pub returning : ℕ → (given : Header) → Size → (edges : List ℕ) → Returned
returning answer given size edges = record { header = handed answer given size edges; answer = answer }

-- a change, which answers 0 or the number of a refusal, as a call that hands back the record
abbrev pub handing : (given : Header) → Size → Outcome ℕ → Outcome Returned
handing given size c = record { reply = returning c.reply given size c.memory.edges; memory = c.memory }

-- "4 under 4,096 numbers, plus one for each index slot where an index is built"
abbrev pub build_room? : Memory → Bool
build_room? m = leb (least_work + length m.index) (length m.work)

-- "13 fewer slots than entries needed": the entries that size and edges determine fit in index memory
abbrev pub fits? : Size → List ℕ → Memory → Bool
fits? size edges m = leb (length (determined (graph_of size edges))) (length m.index)

-- What insertion, removal and card reading have in common, once the size and the wanted edges are known. Accepted: edge memory holds the edges and
-- index memory the entries that they determine, each "then zeros". Otherwise the refusal 13. Both leave work memory zero.
unfoldable pub settle : Size → (wanted : List ℕ) → Memory → Outcome ℕ
settle size wanted m =
    cond (fits? size wanted m)
    (record {
      reply = 0;
      memory = record {
        edges = filled (length m.edges) wanted;
        index = filled (length m.index) (determined (graph_of size wanted));
        work = zeroed m.work;
        output = m.output;
      };
    })
    (record { reply = 13; memory = cleared m })

-- "opening 1 2 3"
abbrev pub open_checks : Size → Memory → List Check
open_checks size m = (1, vertices? size.vertices) ∷ (2, longest? size.longest) ∷ (3, leb (length m.edges) most_edges) ∷ []

unfoldable pub open_refusal : Size → Memory → ℕ
open_refusal size m = first_refusal (open_checks size m)

-- "An accepted opening zeroes leg and index memory."
unfoldable pub open_change : Size → Memory → Outcome ℕ
open_change size m =
    refusing (λ n. n) m (open_refusal size m)
    (record { reply = 0; memory = record { edges = zeroed m.edges; index = zeroed m.index; work = m.work; output = m.output } })

unfoldable pub open_call : Header → Memory → Outcome Returned
open_call h m = handing h h.size (open_change h.size m)

-- what an insertion or a removal is given: the record's size, the edge as named, and memory
module _ (size : Size) (from label to : ℕ) (m : Memory) where
  -- "1 2 3 4 5 6", with which both begin
  abbrev pub change_checks : List Check
  change_checks =
      (1, vertices? size.vertices)
      ∷ (2, longest? size.longest)
      ∷ (3, edge_memory? size.vertices m.edges)
      ∷ (4, build_room? m)
      ∷ (5, ends? size.vertices from to)
      ∷ (6, label? label)
      ∷ []

  unfoldable pub change_refusal : ℕ
  change_refusal = first_refusal change_checks

  -- "Lay 1 2 3 4 5 6 7 9 13": 7 laid already, 9 fewer edge slots than edges wanted
  unfoldable pub insert_refusal : ℕ
  insert_refusal =
      first_refusal (
      change_checks
      ++ ((7, not (mem? (edge_number from label to) (standing m.edges)))
      ∷ (9, ltb (length (standing m.edges)) (length m.edges))
      ∷ [])
      )

  unfoldable pub insert_change : Outcome ℕ
  insert_change =
      refusing (λ n. n) m insert_refusal (settle size (insert_edge (edge_number from label to) (standing m.edges)) m)

  -- "Lift 1 2 3 4 5 6 8 13": 8 lifted but absent
  unfoldable pub remove_refusal : ℕ
  remove_refusal = first_refusal (change_checks ++ ((8, mem? (edge_number from label to) (standing m.edges)) ∷ []))

  unfoldable pub remove_change : Outcome ℕ
  remove_change =
      refusing (λ n. n) m remove_refusal (settle size (remove_edge (edge_number from label to) (standing m.edges)) m)

unfoldable pub insert_call : Header → (from label to : ℕ) → Memory → Outcome Returned
insert_call h from label to m = handing h h.size (insert_change h.size from label to m)

unfoldable pub remove_call : Header → (from label to : ℕ) → Memory → Outcome Returned
remove_call h from label to m = handing h h.size (remove_change h.size from label to m)
