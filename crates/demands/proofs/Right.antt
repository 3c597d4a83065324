-- Demand 2 (a): questions put with the record and the memory that an accepted change left are answered rightly.
use mathlib.Core.Path.{◌≡◌, refl, sym, ap, subst, ◌∙◌}
use mathlib.Core.Logic.{◌⊎◌, inl, inr, ⊎_elim, ◌↔◌, ◌≢◌}
use mathlib.Core.Bool.{true, false, ◌||◌}
use mathlib.Core.List.Memᴰ
use mathlib.Core.List.{List, [], ◌∷◌, ◌++◌}
use Prim.Native.Nat.{ℕ, zero, suc, ◌*◌, ◌≤◌, ◌<◌}
use native.Mathlib.Decide.{dec_lt}
use native.Mathlib.Omega.{arith}
use lib.Dec.{leb}
use lib.ListN.{length}
use Rattle.model.specs.Limits.{most_vertices, most_edges, most_longest, least_work}
use Rattle.model.specs.Lists.{◌∈◌, Sorted, Rising, filled, zeroed, Bytes}
use Rattle.model.specs.Edges.{Graph, Bounds, edge_number, standing, totals_of}
use Rattle.model.specs.Patterns.{Keyed, MinRepeat}
use Rattle.model.specs.Walks.{Runs}
use Rattle.model.specs.Entries.{Asked}
use Rattle.model.specs.Routes.{Yes as RoutedYes}
use Rattle.model.specs.Query.{Answered, Yes, No, Refused}
use Rattle.model.specs.Middles.{Middle, Least, none as none-least, No as TwoNo, Refused as TwoRefused}
use Rattle.model.specs.Computed.Edges.{Small, edge?, edge_memory?, insert_edge, remove_edge}
use Rattle.model.specs.Computed.Patterns.{keyed?, once?}
use Rattle.model.specs.Computed.Order.{counted}
use Rattle.model.specs.Computed.Entries.{determined}
use Rattle.model.proofs.Tests.{Tests, test_true, test_false, test_yields, test_not, test_and, test_or, test_T, test_mem, test_le, test_lt, test_dec}
use Rattle.model.proofs.Edges.{edge_named}
use Rattle.model.proofs.Patterns.{test_keyed, test_once}
use Rattle.model.proofs.Routes.{candidate_runs}
use Rattle.model.proofs.Insertion.{length_insert, member_insert, rising_insert, length_remove, rising_remove, member_left}
use Rattle.model.proofs.Memory.{edge_memory, edge_least, standing_filled, standing_zeroed, filled_memory}
use Rattle.model.proofs.Totals.{total_at, runs_total}
use Rattle.model.proofs.Zeros.{Ordered, filled_within}
use Rattle.calls.specs.Checks.{ends?, Check, first_refusal}
use Rattle.calls.specs.Call.{Size, Header, Lacks, graph_of, Memory, lent, lent_out, Outcome, Returned, no_record}
use Rattle.calls.specs.Search.{search_refusal}
use Rattle.calls.specs.Route.{route_call}
use Rattle.calls.specs.Query.{ask_refusal, full_refusal, full_call, lacking?, query_call}
use Rattle.calls.specs.QueryTwo.{two_refusal, either_lacks?, both_once?, memory_checks, by_middles, query_two_call}
use Rattle.calls.specs.Change.{handing, change_checks, change_refusal, open_checks, open_refusal, open_change, open_call, insert_refusal, insert_change, insert_call, remove_refusal, remove_change, remove_call}
use Rattle.calls.specs.Card.{read_call}
use Rattle.calls.proofs.Checks.{First, none, pass, stop, first_is, bounded, bounds_pass, test_ends}
use Rattle.calls.proofs.Change.{ChangeGood, change_good, front_passes}
use Rattle.calls.proofs.Settling.{settled_change, Result, settled, with_number, accepted_zero}
use Rattle.calls.proofs.Passing.{passing}
use Rattle.calls.proofs.Query.{within, ask_leaves, ask_passes, test_lacking, query_refuses, query_lacking, full_refuses, query_full}
use Rattle.calls.proofs.QueryTwo.{lowest_least, least_as, test_either, test_both, two_stop, two_pass, two_refuses, two_lacking, memory_refuses, two_accepted}
use Rattle.demands.specs.Demand2.{Judged, runs_not, Lit, Suffices, written_once, as_left, RightTwo, Right, RightAfter}
use Rattle.demands.proofs.Asking.{judged, judged_test, judged_runs, runs_judged, not_judged, number_refuses, once_is, search_right}
use Rattle.demands.proofs.Routing.{lit_route, runs_lit, route_lit}
use Rattle.demands.proofs.Index.{whole_passes, answer_right}
use Rattle.demands.proofs.Openings.{no_entries, blank_filled}
use Rattle.demands.proofs.Reading.{read_said}

-- ---- the entries that a graph determines, and its edges, in index and edge memory of so many slots

-- edges that can stand there
pub record Standable (vertices slots : ℕ) (wanted : List ℕ) : Type 0 where
  pub few : slots ≤ most_edges
  pub fits : length wanted ≤ slots
  pub rises : Rising wanted
  pub valid : (x : ℕ) → x ∈ wanted → edge? vertices x ≡ true

module _ {vertices slots : ℕ} {wanted : List ℕ} (p : Standable vertices slots wanted) where
  memory_passes : edge_memory? vertices (filled slots wanted) ≡ true
  memory_passes = filled_memory vertices slots wanted p.fits p.few p.rises p.valid

  stands : standing (filled slots wanted) ≡ wanted
  stands = standing_filled slots wanted (λ x k. omega (arith, edge_least vertices x (p.valid x k)))

module _ (g : Graph) (bounds : Bounds g.vertices g.longest) (slots room : ℕ) (can : Standable g.vertices slots g.edges) where
  abbrev edges : List ℕ
  edges = filled slots g.edges

  abbrev index : List ℕ
  index = filled room (determined g)

  abbrev size : Size
  size = record { vertices = g.vertices; longest = g.longest }

  -- "the record .. has those of its standing legs"
  abbrev h : Header
  h = record { size = size; totals = totals_of g.edges }

  small : Small g
  small = record { vertices_small = bounds.vertices_most; longest_small = bounds.longest_most }

  -- no walk runs a pattern that lacks a label
  none_runs : {s t : ℕ} {l : List ℕ} → Keyed g.longest l → Lacks (totals_of g.edges) l → ¬ Runs g l s t
  none_runs k (c, there, e) r =
      let (low, high) = k.labels c there in
      omega (arith, e, total_at g.edges c low high, runs_total g bounds.vertices_most r c there high)

  module _ (other work : List ℕ) (s t : ℕ) (l : List ℕ) where
    abbrev m : Memory
    m = lent other index work

    -- "checks 3 and 4 follow 12"
    abbrev later : List Check
    later = (3, once? l || edge_memory? g.vertices other) ∷ (4, once? l || leb least_work (length work)) ∷ []

    -- the record passes 1 and 2
    after_header : {n : ℕ} → First ((10, ends? g.vertices s t) ∷ (11, keyed? g.longest l) ∷ []) n → ask_refusal size s t l ≡ n
    unfolding ask_refusal
    after_header f = first_is (bounds_pass bounds f)

    ends_refused : ¬ ((s < g.vertices) × (t < g.vertices)) → query_call h s t l m ≡ record { reply = Refused 10; memory = m }
    ends_refused d = query_refuses h s t l m (after_header (stop (test_false (test_ends g.vertices s t) d)))

    module _ (hs : s < g.vertices) (ht : t < g.vertices) where
      pattern_refused : ¬ Keyed g.longest l → query_call h s t l m ≡ record { reply = Refused 11; memory = m }
      pattern_refused d =
          query_refuses h s t l m
          (after_header (pass (test_true (test_ends g.vertices s t) (hs, ht)) (stop (test_false (test_keyed g.longest l) d))))

      module _ (k : Keyed g.longest l) where
        -- ---- the full question

        -- index memory passes 12
        after_index : {n : ℕ} → First later n → full_refusal size s t l m ≡ n
        unfolding determined full_refusal
        after_index f =
            first_is (bounds_pass bounds (pass (test_true (test_ends g.vertices s t) (hs, ht))
            (pass (test_true (test_keyed g.longest l) k) (pass (whole_passes g (counted g) small room) f))))

        own? : Tests (once? l) (MinRepeat l l)
        own? = test_once l (within bounds k)

        full_once : MinRepeat l l → Judged g l s t (full_call size s t l m).reply
        unfolding determined
        full_once own =
            let e : once? l ≡ true = test_true own? own in
            let none = after_index (pass (rw e refl) (pass (rw e refl) none)) in
            let q : Asked g l s t = record { from = hs; to = ht; pattern = record { keyed = k; own = own } } in
            rw (once_is size s t l m none own) (judged _ (answer_right g (counted g) small room q))

        module _ (more : ¬ MinRepeat l l) (here : other ≡ edges) where
          three : once? l || edge_memory? g.vertices other ≡ true
          three = rw (test_false own? more, here) (memory_passes can)

          full_searched : least_work ≤ length work → Judged g l s t (full_call size s t l m).reply
          full_searched enough =
              let four : once? l || leb least_work (length work) ≡ true = rw (test_false own? more) (test_true (test_le least_work (length work)) enough) in
              let same : standing other ≡ g.edges = ap standing here ∙ stands can in
              subst (λ (x : List ℕ). Judged (graph_of size x) l s t (full_call size s t l m).reply) same
              (search_right size s t l m (after_index (pass three (pass four none))) more)

          full_less : length work < least_work → (full_call size s t l m).reply ≡ Refused 4
          full_less less =
              let four : once? l || leb least_work (length work) ≡ false
              = rw (test_false own? more) (test_false (test_le least_work (length work)) (λ z. omega (arith, z))) in
              number_refuses size s t l m (after_index (pass three (stop four)))

        -- ---- and the question, by the rule of totals

        lacks? : Tests (lacking? (totals_of g.edges) l) (Lacks (totals_of g.edges) l)
        lacks? = test_lacking (totals_of g.edges) l

        -- if a label is lacking, whatever memory is lent
        lacking_no : Lacks (totals_of g.edges) l → (m : Memory) → (query_call h s t l m).reply ≡ No
        lacking_no lacks m = rw (query_lacking h s t l m (ask_passes bounds hs ht k) (test_true lacks? lacks)) refl

        -- it is judged rightly where the full question is
        as_full : Judged g l s t (full_call size s t l m).reply → Judged g l s t (query_call h s t l m).reply
        as_full j = elim (test_dec lacks?) [
          | yes lacks ↦ rw (lacking_no lacks m) (runs_not (none_runs k lacks))
          | no whole ↦ rw (query_full h s t l m (test_false lacks? whole)) j
        ]

        work_refused : ¬ MinRepeat l l → other ≡ edges → ¬ Lacks (totals_of g.edges) l → length work < least_work → (query_call h s t l m).reply ≡ Refused 4
        work_refused more here whole less = rw (query_full h s t l m (test_false lacks? whole)) (full_less more here less)

        -- and is the full reply, unless that is 4
        full_same : other ≡ edges → (full_call size s t l m).reply ≢ Refused 4 → (query_call h s t l m).reply ≡ (full_call size s t l m).reply
        full_same here d = elim (test_dec lacks?) [
          | yes lacks ↦ lacking_no lacks m ∙ sym (not_judged (judged_here (test_dec own?)) (none_runs k lacks))
          | no whole ↦ ap (λ (c : Outcome Answered). c.reply) (query_full h s t l m (test_false lacks? whole))
        ]
          where
            judged_here : Dec (MinRepeat l l) → Judged g l s t (full_call size s t l m).reply
            judged_here (yes own) = full_once own
            judged_here (no more) = elim (dec_lt (length work) least_work) [
              | yes less ↦ absurd (d (full_less more here less))
              | no enough ↦ full_searched more here (omega (arith, enough))
            ]

  -- ---- routes

  module _ (s t : ℕ) (l : List ℕ) (hs : s < g.vertices) (ht : t < g.vertices) (k : Keyed g.longest l) (walk work : List ℕ) (enough : least_work ≤ length work) where
    route_none : search_refusal size s t l (lent_out edges work walk) ≡ 0
    unfolding search_refusal
    route_none =
        first_is (bounds_pass bounds (pass (memory_passes can) (pass (test_true (test_le least_work (length work)) enough)
        (pass (test_true (test_ends g.vertices s t) (hs, ht)) (pass (test_true (test_keyed g.longest l) k) none)))))

    shown : let c = route_call size s t l (lent_out edges work walk) in Lit g l s t walk c.reply c.memory.output
    shown =
        let c = route_call size s t l (lent_out edges work walk) in
        subst (λ (x : List ℕ). Lit (graph_of size x) l s t walk c.reply c.memory.output) (stands can) (route_lit size s t l (lent_out edges work walk) route_none)

    asked : Judged g l s t (query_call h s t l (lent edges index work)).reply
    asked = as_full edges work s t l hs ht k (elim (test_dec (own? edges work s t l hs ht k)) [
      | yes own ↦ full_once edges work s t l hs ht k own
      | no more ↦ full_searched edges work s t l hs ht k more refl enough
    ])

    shown_if : most_longest * most_vertices ≤ length walk
        → ((query_call h s t l (lent edges index work)).reply ≡ Yes) ↔ ((n : ℕ) × ((route_call size s t l (lent_out edges work walk)).reply ≡ RoutedYes n))
    shown_if long = (λ e. runs_lit bounds k hs ht long shown (judged_runs asked e), λ (n, e). let (es, r, _) = lit_route shown e in runs_judged asked (candidate_runs r.runs))

  -- ---- two patterns

  module _ (s t : ℕ) (p q : List ℕ) where
    ends_none : ¬ ((s < g.vertices) × (t < g.vertices)) → (m : Memory) → (query_two_call h s t p q m).reply ≡ TwoRefused 10
    ends_none d m =
        let e = two_stop size s t p q (after_header [] [] s t p (stop (test_false (test_ends g.vertices s t) d))) (omega arith) in
        rw (two_refuses h s t p q m e) refl

    module _ (hs : s < g.vertices) (ht : t < g.vertices) where
      -- 11 of the first, then of the second
      patterns_none : ¬ (Keyed g.longest p × Keyed g.longest q) → (m : Memory) → (query_two_call h s t p q m).reply ≡ TwoRefused 11
      patterns_none d m = rw (two_refuses h s t p q m (eleven (test_dec (test_keyed g.longest p)))) refl
        where
          eleven : Dec (Keyed g.longest p) → two_refusal size s t p q ≡ 11
          eleven (yes k) = two_pass size s t p q (ask_passes bounds hs ht k) (stop (test_false (test_keyed g.longest q) (λ l. d (k, l))))
          eleven (no n) =
              two_stop size s t p q
              (after_header [] [] s t p (pass (test_true (test_ends g.vertices s t) (hs, ht)) (stop (test_false (test_keyed g.longest p) n)))) (omega arith)

      module _ (kp : Keyed g.longest p) (kq : Keyed g.longest q) where
        two_passed : two_refusal size s t p q ≡ 0
        two_passed = two_pass size s t p q (ask_passes bounds hs ht kp) (pass (test_true (test_keyed g.longest q) kq) none)

        either? : Tests (either_lacks? (totals_of g.edges) p q) (Lacks (totals_of g.edges) p ⊎ Lacks (totals_of g.edges) q)
        either? = test_either (totals_of g.edges) p q

        both? : Tests (both_once? p q) (MinRepeat p p × MinRepeat q q)
        both? = test_both (within bounds kp) (within bounds kq)

        -- if a label is lacking, whatever memory is lent
        either_no : Lacks (totals_of g.edges) p ⊎ Lacks (totals_of g.edges) q → (m : Memory) → (query_two_call h s t p q m).reply ≡ TwoNo
        either_no lacks m = rw (two_lacking h s t p q m two_passed (test_true either? lacks)) refl

        no_middle : Lacks (totals_of g.edges) p ⊎ Lacks (totals_of g.edges) q → (v : ℕ) → ¬ Middle g p q s t v
        no_middle lacks v k = ⊎_elim (λ l. none_runs kp l k.out) (λ l. none_runs kq l k.home) lacks

        -- index memory passes 12
        after_index_two : (other work : List ℕ) {n : ℕ}
            → First ((3, both_once? p q || edge_memory? g.vertices other) ∷ (4, both_once? p q || leb least_work (length work)) ∷ []) n
            → first_refusal (memory_checks h s t p q (lent other index work)) ≡ n
        unfolding determined
        after_index_two other work f = first_is (pass (whole_passes g (counted g) small room) f)

        two_less : ¬ (MinRepeat p p × MinRepeat q q) → ¬ (Lacks (totals_of g.edges) p ⊎ Lacks (totals_of g.edges) q) → (work : List ℕ)
            → length work < least_work → (query_two_call h s t p q (lent edges index work)).reply ≡ TwoRefused 4
        two_less more whole work less =
            let three : both_once? p q || edge_memory? g.vertices edges ≡ true = rw (test_false both? more) (memory_passes can) in
            let four : both_once? p q || leb least_work (length work) ≡ false
            = rw (test_false both? more) (test_false (test_le least_work (length work)) (λ z. omega (arith, z))) in
            rw (memory_refuses h s t p q (lent edges index work) two_passed (test_false either? whole) (after_index_two edges work (pass three (stop four)))) refl

        module _ (other work : List ℕ) where
          -- what is lent suffices for either pattern by itself
          single : (a b : ℕ) (l : List ℕ) → a < g.vertices → b < g.vertices → Keyed g.longest l → (MinRepeat l l) ⊎ ((other ≡ edges) × (least_work ≤ length work))
              → Judged g l a b (query_call h a b l (lent other index work)).reply
          single a b l ha hb k (inl own) = as_full other work a b l ha hb k (full_once other work a b l ha hb k own)
          single a b l ha hb k (inr (here, room)) = as_full other work a b l ha hb k (elim (test_dec (own? other work a b l ha hb k)) [
            | yes own ↦ full_once other work a b l ha hb k own
            | no more ↦ full_searched other work a b l ha hb k more here room
          ])

          memory_none : Suffices edges p q other work → first_refusal (memory_checks h s t p q (lent other index work)) ≡ 0
          memory_none (written_once a b) = let e = test_true both? (a, b) in after_index_two other work (pass (rw e refl) (pass (rw e refl) none))
          memory_none (as_left here room) =
              let three : edge_memory? g.vertices other ≡ true = ap (edge_memory? g.vertices) here ∙ memory_passes can in
              after_index_two other work
              (pass (test_true (test_or (test_T (both_once? p q)) (test_T (edge_memory? g.vertices other))) (inr (rw three tt)))
              (pass (test_true (test_or (test_T (both_once? p q)) (test_le least_work (length work))) (inr room)) none))

          of_first : Suffices edges p q other work → (MinRepeat p p) ⊎ ((other ≡ edges) × (least_work ≤ length work))
          of_first (written_once a b) = inl a
          of_first (as_left here room) = inr (here, room)

          of_second : Suffices edges p q other work → (MinRepeat q q) ⊎ ((other ≡ edges) × (least_work ≤ length work))
          of_second (written_once a b) = inl b
          of_second (as_left here room) = inr (here, room)

          least_middle : Suffices edges p q other work → Least (Middle g p q s t) (query_two_call h s t p q (lent other index work)).reply
          least_middle lends = elim (test_dec either?) [
            | yes lacks ↦ rw (either_no lacks (lent other index work)) (none-least (no_middle lacks))
            | no whole ↦ rw (two_accepted h s t p q (lent other index work) two_passed (test_false either? whole) (memory_none lends))
                (unfold by_middles in least_as into back (lowest_least (λ v hv.
                test_and (judged_test (single s v p hs hv kp (of_first lends))) (judged_test (single v t q hv ht kq (of_second lends))))))
          ]
            where
              into : (v : ℕ) → (v < g.vertices) × (Runs g p s v × Runs g q v t) → Middle g p q s t v
              into v h = record { vertex = h.0; out = h.1.0; home = h.1.1 }

              back : (v : ℕ) → Middle g p q s t v → (v < g.vertices) × (Runs g p s v × Runs g q v t)
              back v k = (k.vertex, (k.out, k.home))

    right_two : RightTwo h edges index g s t p q
    right_two =
        record {
          least = λ hs ht kp kq other work. least_middle hs ht kp kq other work;
          lacking = λ hs ht kp kq lacks m. (either_no hs ht kp kq lacks m, no_middle hs ht kp kq lacks);
          less = two_less;
          ends = ends_none;
          patterns = patterns_none;
        }

  -- whatever is asked
  full : (s t : ℕ) (l work : List ℕ) → (full_call size s t l (lent edges index work)).reply ≢ Refused 4
      → (query_call h s t l (lent edges index work)).reply ≡ (full_call size s t l (lent edges index work)).reply
  full s t l work d = go (ask_refusal size s t l) refl
    where
      go : (n : ℕ) → ask_refusal size s t l ≡ n → (query_call h s t l (lent edges index work)).reply ≡ (full_call size s t l (lent edges index work)).reply
      go zero e = let a = ask_leaves size s t l e in full_same edges work s t l a.start_vertex a.destination_vertex a.keyed refl d
      go (suc n) e = rw (query_refuses h s t l (lent edges index work) e, full_refuses h s t l (lent edges index work) e) refl

  pub right : Right h edges index g
  right =
      record {
        totals = refl;
        once = λ s t l hs ht p other work. as_full other work s t l hs ht p.keyed (full_once other work s t l hs ht p.keyed p.own);
        repeating = λ s t l hs ht k more work enough. as_full edges work s t l hs ht k (full_searched edges work s t l hs ht k more refl enough);
        lacking = λ s t l hs ht k lacks m. (lacking_no [] [] s t l hs ht k lacks m, none_runs k lacks);
        full = full;
        less = λ s t l hs ht k more whole work. work_refused edges work s t l hs ht k more refl whole;
        ends = λ s t l d other work. ap replied (ends_refused other work s t l d);
        patterns = λ s t l hs ht d other work. ap replied (pattern_refused other work s t l hs ht d);
        routes = shown;
        given = shown_if;
        two = right_two;
      }
    where
      replied : Outcome Answered → Answered
      replied c = c.reply

-- ---- after an accepted change

settled_right : (given : Header) (h : Size) (wanted : List ℕ) (m : Memory) → Bounds h.vertices h.longest → Standable h.vertices (length m.edges) wanted
    → RightAfter (handing given h (settled_change h wanted m))
settled_right given h wanted m bounds can =
    subst (λ (l : List ℕ). Right (record { size = h; totals = totals_of l }) (filled (length m.edges) wanted) (filled (length m.index) (determined (graph_of h wanted))) (graph_of h l))
    (sym (stands can)) (right (graph_of h wanted) bounds (length m.edges) (length m.index) can)

accepted_right : {c : Outcome Returned} {given : Header} {h : Size} {wanted : List ℕ} {m : Memory} (n : ℕ) → Result c given m (handing given h (settled_change h wanted m)) n
    → c.reply.answer ≡ 0 → (n ≡ 0 → Bounds h.vertices h.longest × Standable h.vertices (length m.edges) wanted) → RightAfter c
accepted_right {given = given} {h = h} {wanted = wanted} {m = m} n r e f =
    let z = accepted_zero n r e in
    let (bounds, can) = f z in
    subst RightAfter (sym (r.accepted z)) (settled_right given h wanted m bounds can)

pub open_right : (h : Header) (m : Memory) → (open_call h m).reply.answer ≡ 0 → RightAfter (open_call h m)
unfolding open_call open_change open_refusal
open_right h m e =
    let r = with_number h h.size (first_refusal (open_checks h.size m)) m done in
    let z = accepted_zero (first_refusal (open_checks h.size m)) r e in
    let (v, (k, (few, _))) = passing (open_checks h.size m) tt z in
    subst RightAfter (sym (r.accepted z)) (fresh (bounded v k) (test_yields (test_le (length m.edges) most_edges) few))
  where
    done : Outcome ℕ
    done = record { reply = 0; memory = record { edges = zeroed m.edges; index = zeroed m.index; work = m.work; output = m.output } }

    -- with those edges standing
    RightWith : (standing edges index : List ℕ) → Type 0
    RightWith l edges index = Right (record { size = h.size; totals = totals_of l }) edges index (graph_of h.size l)

    fresh : Bounds h.size.vertices h.size.longest → length m.edges ≤ most_edges → RightAfter (handing h h.size done)
    fresh b few =
        let can : Standable h.size.vertices (length m.edges) []
        = record { few = few; fits = omega arith; rises = Sorted.none; valid = λ x k. absurd (Memᴰ.not-nil k) } in
        let none_stand : standing (zeroed m.edges) ≡ [] = standing_zeroed (length m.edges) in
        let g = graph_of h.size [] in
        let empty : determined g ≡ [] = no_entries g refl (record { vertices_small = b.vertices_most; longest_small = b.longest_most }) in
        let zeros : filled (length m.index) (determined g) ≡ zeroed m.index = rw empty (sym (blank_filled (length m.index))) in
        subst (λ (l : List ℕ). RightWith l (zeroed m.edges) (zeroed m.index)) (sym none_stand)
        (subst (λ (l : List ℕ). RightWith [] (zeroed m.edges) l) zeros
        (subst (λ (l : List ℕ). RightWith [] l (filled (length m.index) (determined g))) (sym (blank_filled (length m.edges)))
        (right g b (length m.edges) (length m.index) can)))

module _ (h : Size) (from label to : ℕ) (m : Memory) where
  abbrev x : ℕ
  x = edge_number from label to

  abbrev L : List ℕ
  L = standing m.edges

  -- the checks with which both begin have passed
  begun : (later : List Check) → first_refusal (change_checks h from label to m ++ later) ≡ 0 → ChangeGood h from label to m
  unfolding change_refusal
  begun later z = change_good h from label to m (front_passes (change_checks h from label to m) later z)

  module _ (g : ChangeGood h from label to m) where
    abbrev given : (length m.edges ≤ most_edges) × Ordered (edge? h.vertices) 0 m.edges L
    given = edge_memory h.vertices m.edges g.memory

    inserted_can : ¬ (x ∈ L) → length L < length m.edges → Standable h.vertices (length m.edges) (insert_edge x L)
    inserted_can new room =
        let (few, o) = given in
        let named = edge_named h.vertices from label to g.header.vertices_most g.from_vertex g.to_vertex g.label_least g.label_most in
        record {
          few = few;
          fits = omega (arith, length_insert x L, room);
          rises = rising_insert x L o.sorted new;
          valid = λ y k. ⊎_elim (λ e. rw e named) (λ j. (o.each y j).1) ((member_insert x L y).0 k);
        }

    removed_can : x ∈ L → Standable h.vertices (length m.edges) (remove_edge x L)
    removed_can old =
        let (few, o) = given in
        record {
          few = few;
          fits = omega (arith, length_remove x L old, filled_within L o.zeros);
          rises = rising_remove x L o.sorted;
          valid = λ y k. (o.each y (member_left x L k)).1;
        }

module _ (h : Header) (from label to : ℕ) (m : Memory) where
  abbrev edge : ℕ
  edge = edge_number from label to

  abbrev standing_edges : List ℕ
  standing_edges = standing m.edges

  pub insert_right : (insert_call h from label to m).reply.answer ≡ 0 → RightAfter (insert_call h from label to m)
  unfolding insert_call insert_change insert_refusal
  insert_right e =
      accepted_right _ (settled h h.size (insert_edge edge standing_edges) m _ tt) e (λ q.
      let g = begun h.size from label to m _ q in
      let (_, (_, (_, (_, (_, (_, (new, (room, _)))))))) = passing _ tt q in (
        g.header,
        inserted_can h.size from label to m g (test_yields (test_not (test_mem edge standing_edges)) new)
            (test_yields (test_lt (length standing_edges) (length m.edges)) room),
      ))

  pub remove_right : (remove_call h from label to m).reply.answer ≡ 0 → RightAfter (remove_call h from label to m)
  unfolding remove_call remove_change remove_refusal
  remove_right e =
      accepted_right _ (settled h h.size (remove_edge edge standing_edges) m _ tt) e (λ q.
      let g = begun h.size from label to m _ q in
      let (_, (_, (_, (_, (_, (_, (old, _))))))) = passing _ tt q in
      (g.header, removed_can h.size from label to m g (test_yields (test_mem edge standing_edges) old)))

pub read_right : (bytes : List ℕ) (m : Memory) → Bytes bytes → (read_call bytes m).reply.answer ≡ 0 → RightAfter (read_call bytes m)
read_right bytes m small e =
    let c = read_said bytes m small e in
    subst RightAfter (sym c.is) (settled_right no_record _ _ m c.bounds (record { few = c.few; fits = c.fits; rises = c.rising; valid = c.valid }))
