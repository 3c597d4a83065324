-- What the single questions tell of the edges and entries that stand; and from tables of that, and the checks' outcome, what the call comes to.
use mathlib.Core.Path.{◌≡◌, refl, sym, ap, ap₂, ◌∙◌}
use mathlib.Core.Bool.{Bool, true, false, ◌&&◌}
use mathlib.Core.List.{List, []}
use Prim.Native.Nat.{ℕ, ◌≤◌, ◌<◌}
use native.Mathlib.Omega.{arith}
use borrow.Author.Tests.{le-leb}
use lib.ListN.{length, get_or, take}
use lib.Seq.{length-take-le}
use Rattle.model.specs.Limits.{most_vertices, most_edges, least_work}
use Rattle.model.specs.Lists.{keep, up_to}
use Rattle.model.specs.Edges.{Bounds, standing}
use Rattle.model.specs.Patterns.{Keyed}
use Rattle.model.specs.Middles.{TwoAnswered, Refused}
use Rattle.model.specs.Replies.{number_of}
use Rattle.model.specs.Computed.Edges.{edge_memory?}
use Rattle.model.specs.Computed.Patterns.{once?}
use Rattle.model.specs.Computed.Query.{index_memory?, answers?}
use Rattle.model.specs.declared.Refusal.{Refusal}
use Rattle.model.proofs.Tests.{both_ways}
use Rattle.model.proofs.Lists.{keep_as, below}
use Rattle.model.proofs.Search.{runs_as}
use Rattle.model.proofs.IndexMemory.{index_memory, answers_alone}
use Rattle.calls.specs.Checks.{first_refusal}
use Rattle.calls.specs.Call.{Size, Header, Memory, lent, cleared, Outcome, Meets}
use Rattle.calls.specs.Query.{ask_refusal, lacking?, query_call}
use Rattle.calls.specs.QueryTwo.{yes?, lowest, two_refusal, either_lacks?, both_once?, memory_checks, by_middles, query_two_call}
use Rattle.calls.proofs.Checks.{First, none, pass, first_is}
use Rattle.calls.proofs.Calls.{refused_meets}
use Rattle.calls.proofs.Query.{within, ask_passes}
use Rattle.calls.proofs.QueryTwo.{TwoAllowed, two_leaves, two_full, two_accepted, once_says, repeating_says}
use Rattle.edges.proofs.Memory.{Scans}
use Rattle.scan.proofs.Scanning.{Entered}
use Rattle.answer.specs.Saying.{Answerable, Indexed}
use Rattle.answer_tables.specs.Saying.{SaysFrom, SaysTo}
use Rattle.frontier.proofs.Search.{searchable_over}
use Rattle.query_checks.proofs.Both.{neither_lacks, both_once}
use Rattle.query_two.specs.Call.{FullTwo}
use Rattle.middles.specs.Meeting.{told?, Puttable, Meeting}
use Rattle.middles.proofs.Telling.{told_once, told_repeating}

module _ (h : Header) (m : Memory) (bounds : Bounds h.size.vertices h.size.longest)
    (valid : index_memory? h.size.vertices h.size.longest m.index ≡ true) (l : List ℕ) (keyed : Keyed h.size.longest l)
    (whole : lacking? h.totals l ≡ false) (s t : ℕ) (hs : s < h.size.vertices) (ht : t < h.size.vertices) where
  asked : ask_refusal h.size s t l ≡ 0
  asked = ask_passes bounds hs ht keyed

  pub single_once : once? l ≡ true → yes? (query_call h s t l m).reply ≡ answers? h.size.vertices (standing m.index) l s t
  single_once e = once_says h s t l m asked whole valid e ∙ sym (answers_alone (index_memory _ _ _ valid) _ (within bounds keyed) s t)

  pub single : edge_memory? h.size.vertices m.edges ≡ true → least_work ≤ length m.work
      → yes? (query_call h s t l m).reply ≡ told? h.size.vertices (standing m.edges) (standing m.index) l s t
  single edges room = both_ways (once? l)
      (λ e. single_once e ∙ sym (told_once _ _ _ l s t e))
      (λ e. repeating_says h s t l m asked whole valid e edges room ∙ sym (runs_as _ _ l t 0 h.size.longest s) ∙ sym (told_repeating _ _ _ l s t e))

-- ---- what the call comes to

meets_by : {R : Type 0} {c : Outcome R} {r : R} {m : Memory} → r ≡ c.reply → c.memory ≡ m → Meets c r m
meets_by r e =
    record {
      reply_is = r;
      edges_after = sym (ap (λ (x : Memory). x.edges) e);
      index_after = sym (ap (λ (x : Memory). x.index) e);
      work_after = sym (ap (λ (x : Memory). x.work) e);
      output_after = sym (ap (λ (x : Memory). x.output) e);
    }

module _ (h : Header) (s t : ℕ) (p q : List ℕ) (m : Memory) (passed : two_refusal h.size s t p q ≡ 0)
    (whole : either_lacks? h.totals p q ≡ false) (accepted : first_refusal (memory_checks h s t p q m) ≡ 0) where
  -- from tests that agree with the single questions
  pub met_reply : {out home : ℕ → Bool} → ((v : ℕ) → v < h.size.vertices → yes? (query_call h s v p m).reply ≡ out v)
      → ((v : ℕ) → v < h.size.vertices → yes? (query_call h v t q m).reply ≡ home v)
      → lowest (keep (λ v. out v && home v) (up_to h.size.vertices)) ≡ (query_two_call h s t p q m).reply
  unfolding by_middles
  met_reply f g = rw (two_accepted h s t p q m passed whole accepted) (sym (ap lowest (keep_as (up_to h.size.vertices) (λ v k. ap₂ ◌&&◌ (f v (below k)) (g v (below k))))))

  pub met_once : both_once? p q ≡ true → (query_two_call h s t p q m).memory ≡ m
  unfolding by_middles
  met_once e = rw (two_accepted h s t p q m passed whole accepted, e) refl

  pub met_repeating : both_once? p q ≡ false → (query_two_call h s t p q m).memory ≡ cleared m
  unfolding by_middles
  met_repeating e = rw (two_accepted h s t p q m passed whole accepted, e) refl

-- ---- past the checks before all memory

module _ (h : Size) (s t : ℕ) (p q : List ℕ) (passed : two_refusal h s t p q ≡ 0) where
  given : TwoAllowed h s t p q
  given = two_leaves h s t p q passed

  pub refused_two : {m : Memory} (r : Refusal) → First (memory_checks (record { size = h; totals = [] }) s t p q m) (number_of r)
      → FullTwo h s t p q m (Refused (number_of r)) m
  refused_two {m} r f = record { is = λ totals whole. rw (two_full (record { size = h; totals = totals }) s t p q m passed whole) (refused_meets Refused m _ _ r (first_is f)) }

  -- check 12 has passed
  module _ {index : List ℕ} {e : ℕ} (i : Entered h.vertices h.longest index e) where
    indexed : Indexed h.vertices h.longest (take e index)
    indexed = rw i.front (record { rises = i.ordered.sorted; valid = λ x k. (i.ordered.each x k).1 })

    pub answerable : {l : List ℕ} {v : ℕ} → Keyed h.longest l → v < h.vertices → Answerable (take e index) l v v
    answerable {v = v} keyed inside =
        let small : v < most_vertices = omega (arith, given.bounds) in
        record { rises = indexed.rises; keyed = within given.bounds keyed; start_small = small; destination_small = small }

    -- ---- by patterns that are both written once

    module _ (once : both_once? p q ≡ true) {out home : List Bool} (f : SaysFrom (take e index) p s out) (g : SaysTo (take e index) q t home)
        {reply : TwoAnswered} (r : reply ≡ lowest (keep (λ v. get_or out v false && get_or home v false) (up_to h.vertices))) (edges work : List ℕ) where
      abbrev m : Memory
      m = lent edges index work

      module _ (totals : List ℕ) (whole : either_lacks? totals p q ≡ false) where
        abbrev full : Header
        full = record { size = h; totals = totals }

        accepted : first_refusal (memory_checks full s t p q m) ≡ 0
        accepted = first_is (pass i.memory (pass (rw once refl) (pass (rw once refl) none)))

        by_first : (v : ℕ) → v < h.vertices → yes? (query_call full s v p m).reply ≡ get_or out v false
        by_first v hv =
            single_once full m given.bounds i.memory p given.first_keyed (neither_lacks p q totals whole).0 s v given.start_vertex hv (both_once p q once).0
            ∙ sym (rw i.front at ((f.is h.vertices h.longest given.bounds.vertices_most given.start_vertex indexed).each v hv))

        by_second : (v : ℕ) → v < h.vertices → yes? (query_call full v t q m).reply ≡ get_or home v false
        by_second v hv =
            single_once full m given.bounds i.memory q given.second_keyed (neither_lacks p q totals whole).1 v t hv given.destination_vertex (both_once p q once).1
            ∙ sym (rw i.front at ((g.is h.vertices h.longest given.bounds.vertices_most given.destination_vertex indexed).each v hv))

        meets_once : Meets (query_two_call full s t p q m) reply m
        meets_once = meets_by (r ∙ met_reply full s t p q m passed whole accepted by_first by_second) (met_once full s t p q m passed whole accepted once)

      pub full_once : FullTwo h s t p q m reply m
      full_once = record { is = meets_once }

    -- ---- by patterns of which one repeats itself: check 3 has passed too

    module _ {edges : List ℕ} {n : ℕ} (es : Scans h.vertices edges n) where
      pub first_puttable : Puttable h.vertices (take n edges) (take e index) p s
      first_puttable =
          record {
            searchable = searchable_over given.bounds es given.first_keyed given.start_vertex given.start_vertex;
            few = few;
            keyed = within given.bounds given.first_keyed;
            longest = h.longest;
            indexed = indexed;
          }
        where
          few : length (take n edges) ≤ most_edges
          few = omega (arith, length-take-le n edges es.within, es.within, es.slots)

      pub second_puttable : Puttable h.vertices (take n edges) (take e index) q t
      second_puttable =
          record {
            searchable = searchable_over given.bounds es given.second_keyed given.destination_vertex given.destination_vertex;
            few = first_puttable.few;
            keyed = within given.bounds given.second_keyed;
            longest = h.longest;
            indexed = indexed;
          }

      module _ (repeats : both_once? p q ≡ false) {work work' : List ℕ} (room : least_work ≤ length work) {reply : TwoAnswered}
          (met : Meeting h.vertices (take n edges) (take e index) p q s t work reply work') where
        abbrev lends : Memory
        lends = lent edges index work

        module _ (totals : List ℕ) (whole : either_lacks? totals p q ≡ false) where
          abbrev record_is : Header
          record_is = record { size = h; totals = totals }

          all_pass : first_refusal (memory_checks record_is s t p q lends) ≡ 0
          all_pass = first_is (pass i.memory (pass (rw repeats es.memory) (pass (rw repeats (le-leb _ _ room)) none)))

          told_first : (v : ℕ) → v < h.vertices → yes? (query_call record_is s v p lends).reply ≡ told? h.vertices (take n edges) (take e index) p s v
          told_first v hv = rw (es.front, i.front)
              (single record_is lends given.bounds i.memory p given.first_keyed (neither_lacks p q totals whole).0 s v given.start_vertex hv es.memory room)

          told_second : (v : ℕ) → v < h.vertices → yes? (query_call record_is v t q lends).reply ≡ told? h.vertices (take n edges) (take e index) q v t
          told_second v hv = rw (es.front, i.front)
              (single record_is lends given.bounds i.memory q given.second_keyed (neither_lacks p q totals whole).1 v t hv given.destination_vertex es.memory room)

          meets_repeating : Meets (query_two_call record_is s t p q lends) reply (lent edges index work')
          meets_repeating =
              let after : lent edges index work' ≡ cleared lends = ap (λ (w : List ℕ). lent edges index w) met.work_after in
              rw after (meets_by (met.is ∙ met_reply record_is s t p q lends passed whole all_pass told_first told_second) (met_repeating record_is s t p q lends passed whole all_pass repeats))

        pub full_repeating : FullTwo h s t p q lends reply (lent edges index work')
        full_repeating = record { is = meets_repeating }
