-- The query's checks in their order; then, from what they leave, the query on the entries or the search, and from what it finds the call's reply.
use mathlib.Core.Path.{◌≡◌, refl, sym, ap, ◌∙◌}
use mathlib.Core.Bool.{Bool, true, false, ◌||◌}
use mathlib.Core.List.{List, [], ◌∷◌}
use Prim.Native.Nat.{ℕ, ◌≤◌}
use native.Mathlib.Omega.{arith}
use borrow.Author.Tests.{le-leb}
use lib.Dec.{leb}
use lib.ListN.{length, take}
use Rattle.model.specs.Limits.{most_longest, least_work}
use Rattle.model.specs.Edges.{standing}
use Rattle.model.specs.Patterns.{Keyed}
use Rattle.model.specs.Query.{Refused}
use Rattle.model.specs.Replies.{number_of, answered_of}
use Rattle.model.specs.Computed.Edges.{edge_memory?}
use Rattle.model.specs.Computed.Patterns.{times_written, once?}
use Rattle.model.specs.Computed.Levels.{runs?}
use Rattle.model.specs.Computed.Query.{index_memory?, answers?}
use Rattle.model.specs.declared.Refusal.{Refusal}
use Rattle.model.specs.declared.Refusal.TheVariants.{IndexMemory}
use Rattle.model.proofs.Patterns.{count_more}
use Rattle.model.proofs.Search.{runs_as}
use Rattle.model.proofs.IndexMemory.{answers_alone}
use Rattle.calls.specs.Checks.{Check, first_refusal}
use Rattle.calls.specs.Call.{Size, Header, graph_of, Memory, lent, Meets}
use Rattle.calls.specs.Query.{saying, ask_checks, ask_refusal, full_refusal, by_index, by_search, lacking?, full_call, query_call}
use Rattle.calls.proofs.Checks.{First, none, pass, stop, first_is}
use Rattle.calls.proofs.Calls.{refused_meets, accepted_is}
use Rattle.calls.proofs.Change.{pass_first}
use Rattle.calls.proofs.Query.{Allowed, ask_leaves, within, query_full}
use Rattle.scan.specs.Memory.{extent_of}
use Rattle.std.proofs.Common.{Some, Ok}
use Rattle.scan.proofs.Scanning.{Entered, entered}
use Rattle.answer.specs.Saying.{Answerable, Says}
use Rattle.edges.proofs.Memory.{Scans}
use Rattle.frontier.specs.Search.{Searchable}
use Rattle.level_search.specs.Run.{Tells}
use Rattle.frontier.proofs.Search.{searchable_over}
use Rattle.query.specs.Call.{asked_call, later_checks, searched_call}

-- a yes or a no, as it is told
pub answered_is : (b : Bool) → answered_of (Ok b) ≡ saying b
answered_is true = refl
answered_is false = refl

module _ (h : Size) (start destination : ℕ) (pattern : List ℕ) (m : Memory) where
  abbrev last : List Check
  last =
      (12, index_memory? h.vertices h.longest m.index)
      ∷ (3, once? pattern || edge_memory? h.vertices m.edges)
      ∷ (4, once? pattern || leb least_work (length m.work))
      ∷ []

  -- the checks before all memory have passed: what the full question comes to, by how often the pattern was written
  module _ (passed : ask_refusal h start destination pattern ≡ 0) where
    refusal_is : full_refusal h start destination pattern m ≡ first_refusal last
    unfolding ask_refusal full_refusal
    refusal_is = pass_first (ask_checks h start destination pattern) last tt passed

    pub is_asked : once? pattern ≡ true → full_call h start destination pattern m ≡ asked_call h start destination pattern m
    unfolding full_call asked_call first_refusal
    is_asked e = rw (refusal_is, e) refl

    pub is_searched : once? pattern ≡ false → full_call h start destination pattern m ≡ searched_call h start destination pattern m
    unfolding full_call searched_call first_refusal
    is_searched e = rw (refusal_is, e) refl

-- past the rule of totals, for a pattern that was written any number of times but one
pub searched_whole : (h : Header) (start destination : ℕ) (pattern : List ℕ) (m : Memory) → 0 ≡ ask_refusal h.size start destination pattern
    → false ≡ lacking? h.totals pattern → ¬ (times_written pattern ≡ 1)
    → query_call h start destination pattern m ≡ searched_call h.size start destination pattern m
searched_whole h start destination pattern m a l t =
    query_full h start destination pattern m (sym l) ∙ is_searched h.size start destination pattern m (sym a) (count_more pattern refl t)

-- ---- a pattern that is written once

module _ (h : Size) (s t : ℕ) (pattern index : List ℕ) (passed : ask_refusal h s t pattern ≡ 0) where
  given : Allowed h s t pattern
  given = ask_leaves h s t pattern passed

  keyed : Keyed most_longest pattern
  keyed = within given.bounds given.keyed

  pub asked_refused : index_memory? h.vertices h.longest index ≡ false → (edges work : List ℕ)
      → Meets (asked_call h s t pattern (lent edges index work)) (Refused (number_of IndexMemory)) (lent edges index work)
  unfolding asked_call
  asked_refused fails edges work = refused_meets Refused (lent edges index work) _ _ IndexMemory (first_is (stop fails))

  -- check 12 has passed, and n entries stand
  module _ (n : ℕ) (scanned : extent_of h.vertices h.longest index ≡ Some n) where
    entries : Entered h.vertices h.longest index n
    entries = entered h.vertices h.longest index scanned

    pub part_index : n ≤ length index
    part_index = entries.within

    pub answerable : Answerable (take n index) pattern s t
    answerable = rw entries.front (record {
      rises = entries.ordered.sorted;
      keyed = keyed;
      start_small = omega (arith, given, given.bounds);
      destination_small = omega (arith, given, given.bounds);
    })

    pub asked : (b : Bool) → Says (take n index) pattern s t b → (edges work : List ℕ)
        → Meets (asked_call h s t pattern (lent edges index work)) (saying b) (lent edges index work)
    unfolding asked_call
    asked b says edges work =
        let q : Says (standing index) pattern s t b = rw entries.front at says in
        let same : b ≡ answers? h.vertices index pattern s t
        = q.is h.vertices h.longest given.bounds.vertices_most given.start_vertex given.destination_vertex (record { rises = entries.ordered.sorted; valid = λ x k. (entries.ordered.each x k).1 })
        ∙ answers_alone entries.ordered h.vertices keyed s t in
        let checks : List Check = (12, index_memory? h.vertices h.longest index) ∷ [] in
        rw (accepted_is Refused (lent edges index work) (by_index h s t pattern (lent edges index work)) (first_refusal checks) (first_is (pass entries.memory none)))
        (record { reply_is = ap saying same; edges_after = refl; index_after = refl; work_after = refl; output_after = refl })

-- ---- a pattern that repeats itself

-- over the edges that stand, n of them
pub searchable : (h : Size) (s t : ℕ) (pattern : List ℕ) {n : ℕ} {edges : List ℕ} → ask_refusal h s t pattern ≡ 0 → Scans h.vertices edges n
    → Searchable h.vertices (take n edges) pattern s t
searchable h s t pattern passed e =
    let a = ask_leaves h s t pattern passed in
    searchable_over a.bounds e a.keyed a.start_vertex a.destination_vertex

module _ (h : Size) (s t : ℕ) (pattern : List ℕ) (edges index work : List ℕ) where
  abbrev m : Memory
  m = lent edges index work

  pub searched_refused : (r : Refusal) → First ((12, index_memory? h.vertices h.longest index) ∷ later_checks h s t pattern m) (number_of r)
      → Meets (searched_call h s t pattern m) (Refused (number_of r)) m
  unfolding searched_call
  searched_refused r f = refused_meets Refused m _ _ r (first_is f)

  pub searched : {n : ℕ} {found : Bool} {work' : List ℕ} → index_memory? h.vertices h.longest index ≡ true → Scans h.vertices edges n
      → least_work ≤ length work → Tells h.vertices (take n edges) pattern s t work found work'
      → Meets (searched_call h s t pattern m) (saying found) (lent edges index work')
  unfolding searched_call
  searched {found = found} valid e room f =
      let is : found ≡ runs? (graph_of h (standing edges)) pattern s t
      = (rw e.front at f.is) ∙ runs_as h.vertices (standing edges) pattern t 0 h.longest s in
      let checks : List Check = (12, index_memory? h.vertices h.longest index) ∷ later_checks h s t pattern m in
      rw (accepted_is Refused m (by_search h s t pattern m) (first_refusal checks) (first_is (pass valid (pass e.memory (pass (le-leb _ _ room) none)))))
      (record { reply_is = ap saying is; edges_after = refl; index_after = refl; work_after = f.work_after; output_after = refl })
