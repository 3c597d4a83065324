-- The definitions that compute mean what document 01 says.
use mathlib.Core.Path.{◌≡◌, refl, sym, ap, ◌∙◌}
use mathlib.Core.Logic.{◌↔◌, ⊎_elim}
use mathlib.Core.Bool.{Bool, true, false}
use mathlib.Core.List.{List}
use Prim.Native.Nat.{ℕ, zero, suc, ◌<◌}
use native.Mathlib.Omega.{arith}
use lib.Dec.{T}
use Rattle.model.specs.Limits.{most_longest}
use Rattle.model.specs.Edges.{Graph, Bounds, standing}
use Rattle.model.specs.Patterns.{times, Keyed, MinRepeat}
use Rattle.model.specs.Query.{Answered, No}
use Rattle.model.specs.Middles.{TwoAnswered, Least, none}
use Rattle.model.specs.Computed.Edges.{Small}
use Rattle.model.specs.Computed.Patterns.{min_repeat, times_written}
use Rattle.model.specs.Computed.Order.{counted}
use Rattle.model.specs.Computed.Entries.{determined}
use Rattle.model.proofs.Tests.{Tests, test_true, test_false, test_yields, both_ways}
use Rattle.model.proofs.Patterns.{test_keyed, min_repeat_lem, min_repeat_unique, written_gives, written_is}
use Rattle.model.proofs.Walks.{runs_spells, spells_runs}
use Rattle.model.proofs.Levels.{state_zero, level_zero, level_iff}
use Rattle.model.proofs.Search.{told, decides}
use Rattle.model.proofs.Order.{counted_sorted, counted_names}
use Rattle.model.proofs.Entries.{entries_in, entries_out, entries_rise}
use Rattle.model.proofs.Query.{test_answers}
use Rattle.model.proofs.Codes.{test_code}
use Rattle.model.proofs.Memories.{test_edge_memory, test_index_memory}
use Rattle.model.proofs.Totals.{total_at, total_zero}
use Rattle.calls.specs.Checks.{first_refusal}
use Rattle.calls.specs.Call.{Size, Header, Lacks, graph_of, Memory, Outcome}
use Rattle.calls.specs.Search.{search_call}
use Rattle.calls.specs.Query.{ask_refusal, query_call}
use Rattle.calls.specs.QueryTwo.{yes?, two_refusal, either_lacks?, memory_checks, query_two_call}
use Rattle.calls.proofs.Query.{ask_passes, test_lacking, query_refuses, query_lacking, query_full}
use Rattle.calls.proofs.QueryTwo.{test_either, two_refuses, two_lacking, memory_refuses, two_counts}
use Rattle.demands.specs.Demand1.{search_number, query_number, two_number}
use Rattle.demands.specs.Demand2.{Judged}
use Rattle.demands.proofs.Asking.{unrefused, search_right}
use Rattle.demands.proofs.Routing.{search_allowed, search_number_lem, route_told, route_levels}
use Rattle.demands.specs.Meaning.{Replies, Said, GraphMeaning, Meaning}

-- a test is true exactly if its statement holds
exactly : {b : Bool} {P : Type 0} → Tests b P → (b ≡ true) ↔ P
exactly t = (test_yields t, test_true t)

graph_meaning : (g : Graph) → Bounds g.vertices g.longest → GraphMeaning g
unfolding determined
graph_meaning g b =
    let small : Small g = record { vertices_small = b.vertices_most; longest_small = b.longest_most } in
    record {
      sorts = counted_sorted g;
      names = counted_names g;
      entries = λ e. (entries_out g (counted g) small, entries_in g (counted g) small);
      rises = entries_rise g (counted g) small;
      edge_memory = λ edges. exactly (test_edge_memory g.vertices b.vertices_most edges);
      index_memory = λ index. exactly (test_index_memory g.vertices b.vertices_most g.longest b.longest_most index);
      codes = λ number below. exactly (test_code g.longest number b.longest_most below);
    }

searches : (h : Size) (start destination : ℕ) (pattern : List ℕ) (limit : ℕ) (m : Memory) →
    let r = (search_call h start destination pattern limit m).reply in
    search_number r ≡ 0 → Replies (graph_of h (standing m.edges)) pattern start destination limit r
unfolding search_call
searches h start destination pattern limit m e =
    let none = sym (search_number_lem h start destination pattern m limit) ∙ e in
    let (a, _) = search_allowed h start destination pattern m none in
    let g = graph_of h (standing m.edges) in
    rw none (record {
      told = told g pattern start destination limit;
      decides = λ enough. decides g pattern start destination a.bounds.vertices_most a.keyed.long a.start_vertex a.destination_vertex limit enough
          (omega (arith, a.keyed.short, a.bounds.longest_most));
    })

written : (l m : List ℕ) (j : ℕ) → Keyed most_longest l → MinRepeat l m → (times j m ≡ l) ↔ (j ≡ times_written l)
written l m j p r =
    let same : min_repeat l ≡ m = min_repeat_unique l m p.long r in
    rw (sym same) (written_is l p j, λ e. rw e (written_gives l p))

-- a question with no label lacking is the full one
queries : (h : Header) (s t : ℕ) (l : List ℕ) (m : Memory) → ¬ MinRepeat l l → ¬ Lacks h.totals l →
    let r = (query_call h s t l m).reply in
    query_number r ≡ 0 → Judged (graph_of h.size (standing m.edges)) l s t r
queries h s t l m more whole =
    rw (query_full h s t l m (test_false (test_lacking h.totals l) whole)) (λ e. search_right h.size s t l m (unrefused h.size s t l m e) more)

lacking : (h : Header) (s t : ℕ) (l : List ℕ) (m : Memory) → Bounds h.size.vertices h.size.longest → s < h.size.vertices → t < h.size.vertices
    → Keyed h.size.longest l → Lacks h.totals l → query_call h s t l m ≡ record { reply = No; memory = m }
lacking h s t l m b hs ht k lacks = query_lacking h s t l m (ask_passes b hs ht k) (test_true (test_lacking h.totals l) lacks)

-- ---- two patterns

-- a question that lacks a label is no yes
lacking_not : (h : Header) (s t : ℕ) (l : List ℕ) (m : Memory) → Lacks h.totals l → ¬ Said h s t l m
lacking_not h s t l m lacks e = go (ask_refusal h.size s t l) refl
  where
    other : {r : Answered} → (query_call h s t l m).reply ≡ r → T (yes? r)
    other q = rw (sym q ∙ e) tt

    go : (n : ℕ) → ask_refusal h.size s t l ≡ n → ⊥
    go zero q = other (ap (λ (c : Outcome Answered). c.reply) (query_lacking h s t l m q (test_true (test_lacking h.totals l) lacks)))
    go (suc n) q = other (ap (λ (c : Outcome Answered). c.reply) (query_refuses h s t l m q))

module _ (h : Header) (s t : ℕ) (p q : List ℕ) (m : Memory) where
  abbrev Counts : ℕ → Type 0
  Counts v = (v < h.size.vertices) × (Said h s v p m × Said h v t q m)

  abbrev Right : Outcome TwoAnswered → Type 0
  Right c = two_number c.reply ≡ 0 → Least Counts c.reply

  two : Right (query_two_call h s t p q m)
  two = early (two_refusal h.size s t p q) refl
    where
      later : (n : ℕ) → two_refusal h.size s t p q ≡ 0 → either_lacks? h.totals p q ≡ false → first_refusal (memory_checks h s t p q m) ≡ n → Right (query_two_call h s t p q m)
      later (suc n) passed whole e = rw (memory_refuses h s t p q m passed whole e) (λ z. absurd (omega (arith, z)))
      later zero passed whole e = λ _. two_counts h s t p q m passed whole e

      early : (n : ℕ) → two_refusal h.size s t p q ≡ n → Right (query_two_call h s t p q m)
      early (suc n) e = rw (two_refuses h s t p q m e) (λ z. absurd (omega (arith, z)))
      early zero e = both_ways (either_lacks? h.totals p q)
          (λ l. rw (two_lacking h s t p q m e l) (λ _. none (λ v c. ⊎_elim (λ a. lacking_not h s v p m a c.1.0) (λ b. lacking_not h v t q m b c.1.1) (test_yields (test_either h.totals p q) l))))
          (λ l. later (first_refusal (memory_checks h s t p q m)) e l refl)

pub meaning : Meaning
meaning =
    record {
      keyed = λ k l. exactly (test_keyed k l);
      repeat = λ l m h. (min_repeat_unique l m h, λ e. rw (sym e) (min_repeat_lem l h));
      written = written;
      runs = λ g l s t. (runs_spells, λ (j, p). spells_runs j p);
      graphs = graph_meaning;
      answers = λ vertices index l s t. exactly (test_answers vertices index l s t);
      level_zero = λ g l s z. (λ m. (level_zero g l s z).0 m ∙ sym (state_zero s), λ e. (level_zero g l s z).1 (e ∙ state_zero s));
      level_next = λ g l s i z. level_iff g l s i z;
      searches = searches;
      routes = λ h s t l limit m. route_told h s t l m limit;
      lengths = λ h s t l limit m. route_levels h s t l m limit;
      queries = queries;
      total_zero = λ edges c low high. rw (total_at edges c low high) (total_zero edges c);
      lacking = lacking;
      two = two;
    }
