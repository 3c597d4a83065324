-- A card is read as if a fresh layout had received its edges. By the ledger: the opening and each insertion are accepted, and in
-- the end it holds the card's edges.
use mathlib.Core.Path.{◌≡◌, refl, sym, ◌∙◌}
use mathlib.Core.Logic.{⊎_elim}
use mathlib.Core.Bool.{Bool, false}
use mathlib.Core.List.Memᴰ
use mathlib.Core.List.{List, [], ◌∷◌, ◌++◌, map, append_assoc, append-nil, Memᴰ}
use Prim.Native.Nat.{ℕ, ◌+◌, ◌*◌, ◌≤◌, ◌<◌}
use native.Mathlib.Omega.{arith}
use lib.Dec.{ltb}
use lib.ListN.{length, take}
use lib.Seq.{take-append_seam}
use Rattle.model.specs.Limits.{most_vertices, most_edges, most_label, most_longest, from_unit, least_work}
use Rattle.model.specs.Lists.{◌∈◌, mem?, next, Rising}
use Rattle.model.specs.Edges.{edge_number, from_of, label_of, to_of}
use Rattle.model.proofs.Tests.{test_false, test_yields, test_or, test_lt, test_le, test_mem}
use Rattle.model.proofs.Lists.{sorted_imp}
use Rattle.model.proofs.Edges.{IsEdge, test_edge}
use Rattle.model.proofs.Counting.{no_more, rising_same}
use Rattle.calls.proofs.Card.{card_good}
use Rattle.demands.specs.Ledger.{opening, insertion, card, Fed, Book, rising, book_entries, when, outside, full, opening_number, named_number, inserted, insertion_number, card_book, showing, LedgerReply, Turn, turn, Account, ledger}
use Rattle.demands.specs.Run.Station.{Call, memory_of, fed_by}
use Rattle.demands.specs.Terms.{blank, by_opening, by_card}
use Rattle.demands.specs.Run.Receiving.{receiving, Suffices, ReceivingSame}
use Rattle.demands.proofs.Rising.{edge_below, rising_rises, rising_in, rising_out}
use Rattle.demands.proofs.Totals.{tally_is}
use Rattle.demands.proofs.Steps.{station_of, Fine}
use Rattle.demands.proofs.CardReader.{edges_agree}
use Rattle.demands.proofs.Demand3.{begun, first_number, agreed}
use Rattle.demands.proofs.Reading.{read_said}

-- a condition that does not apply
not_when : {applies : Bool} (n : ℕ) {later : ℕ} → applies ≡ false → when applies n later ≡ later
not_when n e = rw e refl

not_outside : (low high x : ℕ) → low ≤ x → x ≤ high → outside low high x ≡ false
not_outside low high x a b = test_false (test_or (test_lt x low) (test_lt high x)) (λ h. ⊎_elim (λ k. omega arith) (λ k. omega arith) h)

-- what stands in the middle of rising numbers does not stand before
cut_apart : (before : List ℕ) (x : ℕ) (rest : List ℕ) → Rising (before ++ (x ∷ rest)) → ¬ (x ∈ before)
cut_apart [] x rest r m = Memᴰ.not-nil m
cut_apart (y ∷ ys) x rest (next h r) m =
    ⊎_elim (λ e. let k = h x (Memᴰ.append_right ys (Memᴰ.head refl)) in omega arith) (cut_apart ys x rest r) (Memᴰ.cases_cons m)

-- the same edges, in any order
record Same (l m : List ℕ) : Type 0 where
  there : (z : ℕ) → z ∈ l → z ∈ m
  back : (z : ℕ) → z ∈ m → z ∈ l

module _ {slots room : ℕ} {b : Book} (fine : Fine slots room b) (rises : Rising b.edges) {works : ℕ → List ℕ} (enough : Suffices b room works) where
  -- the book with those edges
  abbrev holding : List ℕ → Book
  holding edges = record { vertices = b.vertices; longest = b.longest; edges = edges }

  abbrev lay : ℕ → Call
  lay x = record { given = insertion (from_of x) (label_of x) (to_of x); work = works x }

  abbrev lays : ℕ → Fed
  lays x = fed_by slots room (lay x)

  same_rising : {l m : List ℕ} → ((z : ℕ) → z ∈ m → z ∈ b.edges) → Same l m → rising l ≡ rising m
  same_rising {l} {m} part s =
      rising_same (rising_rises l) (rising_rises m)
      (λ z k. let j = s.there z (rising_out l k) in rising_in m (below z (part z j)) j)
      (λ z k. let j = rising_out m k in rising_in l (below z (part z j)) (s.back z j))
    where
      below : (z : ℕ) → z ∈ b.edges → z < most_vertices * from_unit
      below z k = edge_below fine.bounds.vertices_most (fine.valid z k)

  -- one insertion
  module _ (before : List ℕ) (x : ℕ) (rest : List ℕ) (all : before ++ (x ∷ rest) ≡ b.edges) (held : List ℕ) (same : Same held before) where
    stands : x ∈ b.edges
    stands = rw (sym all) (Memᴰ.append_right before (Memᴰ.head refl))

    named : IsEdge b.vertices x
    named = test_yields (test_edge b.vertices x) (fine.valid x stands)

    number : edge_number (from_of x) (label_of x) (to_of x) ≡ x
    number = omega arith

    more : Same (x ∷ held) (before ++ (x ∷ []))
    more =
        record {
          there = λ z k. ⊎_elim (λ e. Memᴰ.append_right before (Memᴰ.head e)) (λ j. Memᴰ.append_left _ (same.there z j)) (Memᴰ.cases_cons k);
          back = λ z k. ⊎_elim (λ j. Memᴰ.tail (same.back z j)) (λ j. Memᴰ.head (Memᴰ.eq_of_singleton j)) (Memᴰ.append_cases before k);
        }

    cut : (before ++ (x ∷ [])) ++ rest ≡ b.edges
    cut = append_assoc before (x ∷ []) rest ∙ all

    part : (z : ℕ) → z ∈ before ++ (x ∷ []) → z ∈ b.edges
    part z k = rw (sym cut) (Memᴰ.append_left rest k)

    absent : mem? x held ≡ false
    absent = test_false (test_mem x held) (λ m. cut_apart before x rest (rw (sym all) at rises) (same.there x m))

    -- "9 fewer leg slots than legs wanted"
    slots_left : ltb slots (length (rising (x ∷ held))) ≡ false
    slots_left =
        let few : length (rising (x ∷ held)) ≤ length (rising b.edges) = no_more (sorted_imp (λ u v h e. omega arith) (rising_rises (x ∷ held))) (rising b.edges)
        (λ z k. let j = part z (more.there z (rising_out (x ∷ held) k)) in
        rising_in b.edges (edge_below fine.bounds.vertices_most (fine.valid z j)) j) in
        test_false (test_lt slots (length (rising (x ∷ held)))) (λ h. omega (arith, few, fine.fits))

    -- 13
    entries_fit : full (holding (x ∷ held)) (lays x) ≡ false
    entries_fit =
        let first : take (length (before ++ (x ∷ []))) b.edges ≡ before ++ (x ∷ []) = rw (sym cut) (take-append_seam (before ++ (x ∷ [])) rest) in
        let fit : length (book_entries (holding (before ++ (x ∷ [])))) ≤ room = rw first at (enough.index (length (before ++ (x ∷ [])))) in
        rw (same_rising part more) (test_false (test_lt room (length (book_entries (holding (before ++ (x ∷ [])))))) (λ h. omega (arith, fit)))

    accepted_one : insertion_number (holding held) (from_of x) (label_of x) (to_of x) (lays x) ≡ 0
    unfolding insertion_number named_number inserted
    accepted_one =
        rw number (
        not_when 1 (not_outside 1 most_vertices b.vertices fine.bounds.vertices_least fine.bounds.vertices_most)
        ∙ not_when 2 (not_outside 1 most_longest b.longest fine.bounds.longest_least fine.bounds.longest_most)
        ∙ not_when 3 (test_false (test_lt most_edges slots) (λ h. omega (arith, fine.few)))
        ∙ not_when 4 (test_false (test_lt (length (works x)) (least_work + room)) (λ h. omega (arith, enough.work x stands)))
        ∙ not_when 5 (test_false (test_or (test_le b.vertices (from_of x)) (test_le b.vertices (to_of x)))
        (λ h. ⊎_elim (λ k. omega (arith, named.from)) (λ k. omega (arith, named.to)) h))
        ∙ not_when 6 (not_outside 1 most_label (label_of x) named.label_low named.label_high)
        ∙ not_when 7 absent
        ∙ not_when 9 slots_left
        ∙ not_when 13 entries_fit
        )

  -- all of them, from those before on
  record Received (a : Account) : Type 0 where
    accepted : (r : LedgerReply) → Memᴰ r a.replies → r.number ≡ 0
    held : List ℕ
    book : a.book ≡ holding held
    same : Same held b.edges

  laid : (before rest held : List ℕ) → before ++ rest ≡ b.edges → Same held before → Received (ledger (holding held) (map (fed_by slots room) (map lay rest)))
  unfolding ledger turn inserted
  laid before [] held all same = record {
    accepted = λ r m. absurd (Memᴰ.not-nil m);
    held = held;
    book = refl;
    same = rw (sym (sym (append-nil before) ∙ all)) same;
  }
  laid before (x ∷ rest) held all same =
      let now : turn (holding held) (lays x) ≡ taken = rw (accepted_one before x rest all held same, number before x rest all held same) refl in
      let later = laid (before ++ (x ∷ [])) rest (x ∷ held) (cut before x rest all held same) (more before x rest all held same) in
      rw now (record {
        accepted = λ r m. ⊎_elim (λ e. rw e refl) (later.accepted r) (Memᴰ.cases_cons m);
        held = later.held;
        book = later.book;
        same = later.same;
      })
    where
      taken : Turn
      taken = record { reply = record { number = 0; shown = showing (holding (x ∷ held)) }; book = holding (x ∷ held) }

  -- the opening as well: what the ledger then holds is what the book holds
  received : (totals : List ℕ) → opening_number b.vertices b.longest (fed_by slots room (record { given = opening b.vertices b.longest totals; work = [] })) ≡ 0
      → Received (ledger blank (map (fed_by slots room) (receiving b totals works)))
  unfolding ledger turn
  received totals e =
      let later = laid [] b.edges [] refl (record { there = λ z m. m; back = λ z m. m }) in
      rw e (record {
        accepted = λ r m. ⊎_elim (λ q. rw q refl) (later.accepted r) (Memᴰ.cases_cons m);
        held = later.held;
        book = later.book;
        same = later.same;
      })

  opened : (totals : List ℕ) → opening_number b.vertices b.longest (fed_by slots room (record { given = opening b.vertices b.longest totals; work = [] })) ≡ 0
  unfolding opening_number
  opened totals =
      not_when 1 (not_outside 1 most_vertices b.vertices fine.bounds.vertices_least fine.bounds.vertices_most)
      ∙ not_when 2 (not_outside 1 most_longest b.longest fine.bounds.longest_least fine.bounds.longest_most)
      ∙ not_when 3 (test_false (test_lt most_edges slots) (λ h. omega (arith, fine.few)))

  station_same : {held : List ℕ} → Same held b.edges → station_of slots room (holding held) ≡ station_of slots room b
  station_same {held} same = rw (tally_is held, tally_is b.edges, same_rising (λ z k. k) same) refl

pub receiving_same : ReceivingSame
receiving_same s bytes small work totals works e enough =
    let slots = length s.edges in
    let room = length s.index in
    let c = read_said bytes (memory_of s work) small e in
    let rises : Rising (card_book bytes).edges = unfold card_book in rw (sym (edges_agree bytes (card_good bytes c.passes).whole)) c.rising in
    let call : Call = record { given = card bytes small; work = work } in
    let m = begun s call by_card (sym (first_number s call by_card) ∙ e) in
    let set : (turn blank (fed_by slots room call)).book ≡ card_book bytes = unfold turn in rw (sym (first_number s call by_card) ∙ e) refl in
    let fine : Fine slots room (card_book bytes) = rw set at m.fine in
    let r = received fine rises enough totals (opened fine rises enough totals) in
    let first : Call = record { given = opening (card_book bytes).vertices (card_book bytes).longest totals; work = [] } in
    let a = agreed s first (map (lay fine rises enough) (card_book bytes).edges) by_opening (opened fine rises enough totals) in
    record {
      accepted = λ x k. r.accepted x (rw a.replies at k);
      same = rw (a.station, r.book, m.next, set) (station_same fine rises enough {held = r.held} r.same);
    }
