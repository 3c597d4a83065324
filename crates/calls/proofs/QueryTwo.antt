-- Out by one pattern, home by another: what the checks leave, what the call comes to, and what the single questions say of a place between.
use mathlib.Core.Path.{◌≡◌, refl, ap, ◌∙◌}
use mathlib.Core.Bool.{Bool, true, false, ◌||◌, cond}
use mathlib.Core.List.Memᴰ
use mathlib.Core.List.{List, [], ◌∷◌}
use mathlib.Core.Logic.{◌⊎◌, ⊎_elim}
use Prim.Native.Nat.{ℕ, suc, ◌≤◌, ◌<◌}
use native.Mathlib.Nat.{le_of_eq, le_of_lt}
use lib.Dec.{T, leb}
use lib.ListN.{length}
use borrow.Author.Tests.{le-leb}
use Rattle.model.specs.Limits.{most_longest, least_work}
use Rattle.model.specs.Lists.{◌∈◌, keep, up_to, Rising}
use Rattle.model.specs.Edges.{Bounds, standing}
use Rattle.model.specs.Patterns.{Keyed, MinRepeat}
use Rattle.model.specs.Middles.{TwoAnswered, No, Refused, Least, least, none}
use Rattle.model.specs.Query.{Answered, Yes as QueryYes, No as QueryNo, Refused as QueryRefused}
use Rattle.model.specs.Replies.{number_of}
use Rattle.model.specs.Computed.Edges.{edge_memory?}
use Rattle.model.specs.Computed.Levels.{runs?}
use Rattle.model.specs.Computed.Patterns.{keyed?, once?}
use Rattle.model.specs.Computed.Query.{index_memory?, answers?}
use Rattle.model.specs.declared.Refusal.{Refusal}
use Rattle.model.proofs.Tests.{Tests, test_yields, test_or, test_and}
use Rattle.model.proofs.Patterns.{test_keyed, test_once}
use Rattle.model.proofs.Lists.{keep_in, keep_out, up_to_lem, below, rising_from, sorted_keep, sorted_head}
use Rattle.calls.specs.Checks.{first_refusal}
use Rattle.calls.specs.Call.{Size, Header, Lacks, graph_of, Memory, Meets, Outcome, refusing}
use Rattle.calls.specs.Query.{saying, ask_checks, ask_refusal, full_refusal, by_index, by_search, full_call, lacking?, query_call}
use Rattle.calls.specs.QueryTwo.{yes?, lowest, two_checks, two_refusal, either_lacks?, both_once?, memory_checks, by_middles, query_two_call}
use Rattle.calls.proofs.Checks.{First, none as no-check, pass, stop, first_is, done, also, passes}
use Rattle.calls.proofs.Calls.{refused_meets, accepted_is}
use Rattle.calls.proofs.Change.{stop_first, pass_first}
use Rattle.calls.proofs.Query.{allowed, test_lacking, query_full}

-- ---- the lowest number that passes a test

pub lowest_least : {n : ℕ} {P : ℕ → Type 0} {f : ℕ → Bool} → ((v : ℕ) → v < n → Tests (f v) (P v)) → Least (λ v. (v < n) × P v) (lowest (keep f (up_to n)))
lowest_least {n} {P} {f} t = go (keep f (up_to n)) (λ v m. out (keep_out f (up_to n) m)) (λ v h. keep_in f (up_to_lem h.0) ((t v h.0).passes h.1)) (sorted_keep f (rising_from 0 n))
  where
    out : {v : ℕ} → (v ∈ up_to n) × T (f v) → (v < n) × P v
    out {v} h = (below h.0, (t v (below h.0)).yields h.1)

    go : (l : List ℕ) → ((v : ℕ) → v ∈ l → (v < n) × P v) → ((v : ℕ) → (v < n) × P v → v ∈ l) → Rising l → Least (λ v. (v < n) × P v) (lowest l)
    go [] from to r = none (λ v h. Memᴰ.not-nil (to v h))
    go (m ∷ l) from to r =
        least m (from m (Memᴰ.head refl)) (λ v h. ⊎_elim (λ e. le_of_eq (rw e refl)) (λ k. le_of_lt (sorted_head r v k)) (Memᴰ.cases_cons (to v h)))

-- the same numbers said otherwise
pub least_as : {P Q : ℕ → Type 0} {r : TwoAnswered} → ((v : ℕ) → P v → Q v) → ((v : ℕ) → Q v → P v) → Least P r → Least Q r
least_as f b (least m p h) = least m (f m p) (λ v q. h v (b v q))
least_as f b (none d) = none (λ v q. d v (b v q))

-- ---- what is tested of both patterns

-- a reply that "would .. be a yes"
test_yes : (r : Answered) → Tests (yes? r) (r ≡ QueryYes)
test_yes r = record { yields = only r; passes = λ e. rw e tt }
  where
    only : (r : Answered) → T (yes? r) → r ≡ QueryYes
    only QueryYes t = refl
    only QueryNo t = absurd t
    only (QueryRefused n) t = absurd t

pub test_either : (totals first second : List ℕ) → Tests (either_lacks? totals first second) (Lacks totals first ⊎ Lacks totals second)
unfolding either_lacks?
test_either totals first second = test_or (test_lacking totals first) (test_lacking totals second)

pub test_both : {first second : List ℕ} → Keyed most_longest first → Keyed most_longest second
    → Tests (both_once? first second) (MinRepeat first first × MinRepeat second second)
unfolding both_once?
test_both {first} {second} k l = test_and (test_once first k) (test_once second l)

-- ---- what the checks before all memory leave

pub record TwoAllowed (h : Size) (start destination : ℕ) (first second : List ℕ) : Type 0 where
  pub bounds : Bounds h.vertices h.longest
  pub start_vertex : start < h.vertices
  pub destination_vertex : destination < h.vertices
  pub first_keyed : Keyed h.longest first
  pub second_keyed : Keyed h.longest second

module _ (h : Size) (start destination : ℕ) (first second : List ℕ) where
  pub two_leaves : two_refusal h start destination first second ≡ 0 → TwoAllowed h start destination first second
  unfolding two_refusal
  two_leaves e = elim (passes (two_checks h start destination first second) tt e) [
    | also v (also k (also ends (also one (also two done)))) ↦
        let a = allowed h start destination first v k ends one in
        record {
          bounds = a.bounds;
          start_vertex = a.start_vertex;
          destination_vertex = a.destination_vertex;
          first_keyed = a.keyed;
          second_keyed = test_yields (test_keyed h.longest second) two;
        }
  ]

  -- the first pattern's question is refused, or it is not
  pub two_stop : {n : ℕ} → ask_refusal h start destination first ≡ n → 1 ≤ n → two_refusal h start destination first second ≡ n
  unfolding two_refusal ask_refusal
  two_stop e some = stop_first (ask_checks h start destination first) _ e some

  pub two_pass : {n : ℕ} → ask_refusal h start destination first ≡ 0 → First ((11, keyed? h.longest second) ∷ []) n
      → two_refusal h start destination first second ≡ n
  unfolding two_refusal ask_refusal
  two_pass e f = pass_first (ask_checks h start destination first) _ tt e ∙ first_is f

-- ---- what the call comes to

module _ (h : Header) (start destination : ℕ) (first second : List ℕ) (m : Memory) where
  pub two_refused : (r : Refusal) → two_refusal h.size start destination first second ≡ number_of r
      → Meets (query_two_call h start destination first second m) (Refused (number_of r)) m
  unfolding query_two_call
  two_refused r e = refused_meets Refused m _ _ r e

  pub two_refuses : {n : ℕ} → two_refusal h.size start destination first second ≡ suc n
      → query_two_call h start destination first second m ≡ record { reply = Refused (suc n); memory = m }
  unfolding query_two_call
  two_refuses e = rw e refl

  module _ (passed : two_refusal h.size start destination first second ≡ 0) where
    pub two_lacking : either_lacks? h.totals first second ≡ true → query_two_call h start destination first second m ≡ record { reply = No; memory = m }
    unfolding query_two_call
    two_lacking q = accepted_is Refused m _ _ passed ∙ rw q refl

    pub two_full : either_lacks? h.totals first second ≡ false
        → query_two_call h start destination first second m
        ≡ refusing Refused m (first_refusal (memory_checks h start destination first second m)) (by_middles h start destination first second m)
    unfolding query_two_call
    two_full q = accepted_is Refused m _ _ passed ∙ rw q refl

    module _ (whole : either_lacks? h.totals first second ≡ false) where
      pub memory_refuses : {n : ℕ} → first_refusal (memory_checks h start destination first second m) ≡ suc n
          → query_two_call h start destination first second m ≡ record { reply = Refused (suc n); memory = m }
      memory_refuses e = two_full whole ∙ rw e refl

      pub two_accepted : first_refusal (memory_checks h start destination first second m) ≡ 0
          → query_two_call h start destination first second m ≡ by_middles h start destination first second m
      two_accepted e = two_full whole ∙ accepted_is Refused m _ _ e

      -- "else 12 follows", whichever pattern repeats itself
      pub two_twelve : index_memory? h.size.vertices h.size.longest m.index ≡ false
          → query_two_call h start destination first second m ≡ record { reply = Refused 12; memory = m }
      two_twelve e = memory_refuses (first_is (stop e))

      -- "m counts where the two single questions, from the start to m and from m to the destination, would both be a yes", and the lowest is given
      pub two_counts : first_refusal (memory_checks h start destination first second m) ≡ 0
          → Least (λ v. (v < h.size.vertices) × (((query_call h start v first m).reply ≡ QueryYes) × ((query_call h v destination second m).reply ≡ QueryYes)))
          (query_two_call h start destination first second m).reply
      unfolding by_middles
      two_counts e =
          rw (two_accepted e) (lowest_least (λ v _.
          test_and (test_yes (query_call h start v first m).reply) (test_yes (query_call h v destination second m).reply)))

-- ---- what a single question says, past its checks

yes_saying : (b : Bool) → yes? (saying b) ≡ b
yes_saying true = refl
yes_saying false = refl

module _ (h : Header) (s t : ℕ) (l : List ℕ) (m : Memory) (asked : ask_refusal h.size s t l ≡ 0) (whole : lacking? h.totals l ≡ false) (valid : index_memory? h.size.vertices h.size.longest m.index ≡ true) where
  full_is : First
      ((12, index_memory? h.size.vertices h.size.longest m.index)
      ∷ (3, once? l || edge_memory? h.size.vertices m.edges)
      ∷ (4, once? l || leb least_work (length m.work))
      ∷ []) 0
      → query_call h s t l m ≡ cond (once? l) (by_index h.size s t l m) (by_search h.size s t l m)
  unfolding full_call full_refusal ask_refusal
  full_is f = query_full h s t l m whole ∙ accepted_is QueryRefused m _ _ (pass_first (ask_checks h.size s t l) _ tt asked ∙ first_is f)

  pub once_says : once? l ≡ true → yes? (query_call h s t l m).reply ≡ answers? h.size.vertices m.index l s t
  once_says e = ap (λ (c : Outcome Answered). yes? c.reply) (full_is (pass valid (pass (rw e refl) (pass (rw e refl) no-check)))) ∙ rw e (yes_saying _)

  pub repeating_says : once? l ≡ false → edge_memory? h.size.vertices m.edges ≡ true → least_work ≤ length m.work
      → yes? (query_call h s t l m).reply ≡ runs? (graph_of h.size (standing m.edges)) l s t
  repeating_says e edges room =
      ap (λ (c : Outcome Answered). yes? c.reply) (full_is (pass valid (pass (rw e edges) (pass (rw e (le-leb _ _ room)) no-check)))) ∙ rw e (yes_saying _)
