-- The full question on any record and memory: what its checks leave, and what it replies once they have passed.
use mathlib.Core.Path.{◌≡◌, refl, ap}
use mathlib.Core.Bool.{Bool, true, false, ◌||◌}
use mathlib.Core.List.{List, [], ◌∷◌}
use Prim.Native.Nat.{ℕ, zero, suc}
use native.Mathlib.Omega.{arith}
use lib.Dec.{leb}
use lib.ListN.{length}
use Rattle.model.specs.Limits.{least_work}
use Rattle.model.specs.Edges.{Graph, standing}
use Rattle.model.specs.Patterns.{MinRepeat}
use Rattle.model.specs.Walks.{Runs}
use Rattle.model.specs.Query.{Answered, Yes, No, Refused}
use Rattle.model.specs.Computed.Edges.{edge_memory?}
use Rattle.model.specs.Computed.Patterns.{keyed?, once?}
use Rattle.model.specs.Computed.Levels.{runs?}
use Rattle.model.specs.Computed.Query.{index_memory?}
use Rattle.model.proofs.Tests.{Tests, test_true, test_false}
use Rattle.model.proofs.Patterns.{test_once}
use Rattle.model.proofs.Search.{test_runs}
use Rattle.calls.specs.Checks.{vertices?, longest?, ends?, Check}
use Rattle.calls.specs.Call.{Size, graph_of, Memory}
use Rattle.calls.specs.Query.{saying, full_refusal, by_index, by_search, full_call}
use Rattle.calls.specs.QueryTwo.{yes?}
use Rattle.calls.proofs.Query.{Allowed, allowed, within}
use Rattle.calls.proofs.Passing.{passing}
use Rattle.demands.specs.Demand1.{query_number}
use Rattle.demands.specs.Demand2.{Judged, runs, runs_not}

abbrev yes : Answered → ℕ
yes Yes = 1
yes No = 0
yes (Refused n) = 0

-- what a test of walks says
pub judged : {g : Graph} {l : List ℕ} {s t : ℕ} (b : Bool) → Tests b (Runs g l s t) → Judged g l s t (saying b)
judged true p = runs (p.yields tt)
judged false p = runs_not p.passes

-- a reply that is judged is yes exactly if a walk runs the pattern
module _ {g : Graph} {l : List ℕ} {s t : ℕ} where
  pub judged_runs : {r : Answered} → Judged g l s t r → r ≡ Yes → Runs g l s t
  judged_runs (runs p) e = p
  judged_runs (runs_not d) e = absurd (let z : 0 ≡ 1 = ap yes e in omega arith)

  pub judged_test : {r : Answered} → Judged g l s t r → Tests (yes? r) (Runs g l s t)
  judged_test (runs p) = record { yields = λ _. p; passes = λ _. tt }
  judged_test (runs_not d) = record { yields = λ t. absurd t; passes = d }

  pub runs_judged : {r : Answered} → Judged g l s t r → Runs g l s t → r ≡ Yes
  runs_judged (runs p) q = refl
  runs_judged (runs_not d) q = absurd (d q)

  pub not_judged : {r : Answered} → Judged g l s t r → ¬ Runs g l s t → r ≡ No
  not_judged (runs p) d = absurd (d p)
  not_judged (runs_not _) d = refl

module _ (h : Size) (s t : ℕ) (l : List ℕ) (m : Memory) where
  abbrev checks : List Check
  checks =
      (1, vertices? h.vertices)
      ∷ (2, longest? h.longest)
      ∷ (10, ends? h.vertices s t)
      ∷ (11, keyed? h.longest l)
      ∷ (12, index_memory? h.vertices h.longest m.index)
      ∷ (3, once? l || edge_memory? h.vertices m.edges)
      ∷ (4, once? l || leb least_work (length m.work))
      ∷ []

  -- a refusal is told
  pub number_refuses : {n : ℕ} → full_refusal h s t l m ≡ suc n → (full_call h s t l m).reply ≡ Refused (suc n)
  unfolding full_call
  number_refuses e = rw e refl

  -- a reply that is no refusal: none of the checks refuses
  pub unrefused : query_number (full_call h s t l m).reply ≡ 0 → full_refusal h s t l m ≡ 0
  unrefused e = go (full_refusal h s t l m) refl
    where
      go : (n : ℕ) → full_refusal h s t l m ≡ n → full_refusal h s t l m ≡ 0
      go zero q = q
      go (suc n) q = absurd (let z : suc n ≡ 0 = rw (number_refuses q) at e in omega (arith, z))

  module _ (none : full_refusal h s t l m ≡ 0) where
    given : Allowed h s t l
    given = let (v, (k, (ends, (keyed, _)))) = passing checks tt (unfold full_refusal in none) in allowed h s t l v k ends keyed

    own? : Tests (once? l) (MinRepeat l l)
    own? = test_once l (within given.bounds given.keyed)

    -- by a pattern that is its own minimum repeat, the index's reply; by one that is not, the search's
    pub once_is : MinRepeat l l → full_call h s t l m ≡ by_index h s t l m
    unfolding full_call
    once_is own = rw (none, test_true own? own) refl

    pub repeats_is : ¬ MinRepeat l l → full_call h s t l m ≡ by_search h s t l m
    unfolding full_call
    repeats_is more = rw (none, test_false own? more) refl

    -- which is right about the edges that stand
    pub search_right : ¬ MinRepeat l l → Judged (graph_of h (standing m.edges)) l s t (full_call h s t l m).reply
    search_right more =
        let a = given in
        let g = graph_of h (standing m.edges) in
        rw (repeats_is more) (judged (runs? g l s t) (test_runs g l a.bounds.vertices_most a.keyed.long s t a.start_vertex a.destination_vertex))
