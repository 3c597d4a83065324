-- Card reading: the call on any station is the ledger's turn.
use mathlib.Core.Path.{◌≡◌, refl, sym, ◌∙◌}
use mathlib.Core.Bool.{Bool, true, false, not, ◌&&◌, ◌||◌}
use mathlib.Core.List.{List, map}
use Prim.Native.Nat.{ℕ, ◌+◌, ◌-◌, ◌*◌, ◌≤◌}
use native.Mathlib.Decide.{dec_lt}
use native.Mathlib.Omega.{arith}
use lib.Dec.{eqb, leb, ltb}
use lib.ListN.{length, drop, length-drop}
use Rattle.model.specs.Limits.{most_edges, most_longest, head_bytes, least_work}
use Rattle.model.specs.Lists.{any?, up_to, Bytes}
use Rattle.model.specs.Computed.Entries.{determined}
use Rattle.model.proofs.Tests.{test_true, test_false, test_yields, test_fails, test_and, test_eq, test_le, test_lt, test_T}
use Rattle.calls.specs.Checks.{first_refusal}
use Rattle.calls.specs.Call.{Memory, graph_of, no_record}
use Rattle.calls.specs.Change.{build_room?, fits?}
use Rattle.calls.specs.Card.{marked?, size_of, count_of, edges_of, rising_triples?, card_edges?, read_call}
use Rattle.calls.proofs.Checks.{test_longest}
use Rattle.calls.proofs.Card.{marked_short, marked_at, card_edges_long, card_edges_body, triples_good, length_edges, card_vertices}
use Rattle.calls.proofs.Settling.{settled_change}
use Rattle.calls.proofs.Passing.{passing}
use Rattle.demands.specs.Ledger.{Book, card as cardGiven, rising, book_entries, narrow, full, byte, edge_count, nth_edge, stray, falls, card_book, card_number, nothing, turn}
use Rattle.demands.specs.Terms.{reply_to}
use Rattle.demands.specs.Run.Station.{Call, Station, memory_of, fed_by}
use Rattle.demands.proofs.Rising.{EdgesOf, rising_is}
use Rattle.demands.proofs.Numbers.{Gives, gives_none, chain, above_not, either_not, outside_not}
use Rattle.demands.proofs.Steps.{station_of, Fine, edge_slots_lem, index_slots_lem, Reaches, Matches, matches, begins, first_reply}
use Rattle.demands.proofs.CardReader.{triples_agree, edges_agree}
use Rattle.demands.proofs.Reading.{read_checks, read_result}

module _ (card : List ℕ) (bytes : Bytes card) (work : List ℕ) where
  abbrev reads : Call
  reads = record { given = cardGiven card bytes; work = work }

  abbrev wanted : List ℕ
  wanted = edges_of (drop head_bytes card)

  abbrev n : ℕ
  n = edge_count card

  -- "14 under 9 bytes or mark wrong"
  fourteen : (ltb (length card) 9 || (not (eqb (byte card 0) 80) || (not (eqb (byte card 1) 82) || not (eqb (byte card 2) 67)))) ≡ not (marked? card)
  fourteen =
      elim (dec_lt (length card) 9) [
        | yes h ↦ rw (marked_short card h, test_true (test_lt (length card) 9) h) refl
        | no h ↦
            rw (marked_at card (omega (arith, h)), test_false (test_lt (length card) 9) h, either_not (eqb (byte card 1) 82) (eqb (byte card 2) 67))
            (either_not (eqb (byte card 0) 80) (eqb (byte card 1) 82 && eqb (byte card 2) 67))
      ]

  -- "16 length not 9 + 3 × legs, or legs not rising legs of this layout"
  sixteen : (not (eqb (length card) (9 + 3 * n)) || (any? (stray card) (up_to n) || any? (falls card) (up_to (n - 1)))) ≡ not (card_edges? card)
  sixteen = go (eqb (length card) (9 + 3 * n)) refl
    where
      go : (b : Bool) → eqb (length card) (9 + 3 * n) ≡ b
          → (not (eqb (length card) (9 + 3 * n)) || (any? (stray card) (up_to n) || any? (falls card) (up_to (n - 1)))) ≡ not (card_edges? card)
      go true e = let size = test_yields (test_eq (length card) (9 + 3 * n)) e in rw (e, card_edges_body card size) (triples_agree card size)
      go false e = rw (e, card_edges_long card (test_fails (test_eq (length card) (9 + 3 * n)) e)) refl

  -- what is known of a card whose own checks have passed
  record WholeCard : Type 0 where
    size : length card ≡ 9 + 3 * n
    count : length wanted ≡ n
    edges_are : map (nth_edge card) (up_to n) ≡ wanted
    valid : EdgesOf (size_of card).vertices wanted
    rises : rising wanted ≡ wanted

  whole : card_edges? card ≡ true → WholeCard
  unfolding card_edges?
  whole e =
      let (a, b) = test_yields (test_and (test_eq (length card) (9 + 3 * n)) (test_T (rising_triples? (size_of card).vertices 0 (drop head_bytes card)))) e in
      let good = triples_good (size_of card).vertices 0 (drop head_bytes card) (test_true (test_T (rising_triples? (size_of card).vertices 0 (drop head_bytes card))) b) (card_vertices card bytes) in
      let valid : EdgesOf (size_of card).vertices wanted = λ x m. (good.each x m).1 in
      record {
        size = a;
        count = length_edges n (drop head_bytes card) (length-drop head_bytes card ∙ (omega (arith, a)));
        edges_are = sym (edges_agree card a);
        valid = valid;
        rises = rising_is wanted (card_vertices card bytes) valid good.rising (λ x m. m) (λ x m. m);
      }

  book_entries_lem : WholeCard → book_entries (card_book card) ≡ determined (graph_of (size_of card) wanted)
  unfolding card_book
  book_entries_lem w = rw (w.edges_are, w.rises) refl

  module _ (s : Station) {slots room : ℕ} (wide : length s.edges ≡ slots) (long : length s.index ≡ room) where
    abbrev m : Memory
    m = memory_of s work

    read_gives : Gives (read_checks card m) (card_number card (fed_by slots room reads))
    unfolding card_number
    read_gives =
        chain fourteen (λ _.
        chain refl (λ _.
        chain (outside_not 1 most_longest (byte card 6)) (λ _.
        chain sixteen (λ edges.
        chain three (λ _.
        chain nine (λ _.
        chain four (λ _.
        chain (thirteen (whole edges)) (λ _. gives_none))))))))
      where
        three : ltb most_edges slots ≡ not (leb (length s.edges) most_edges)
        three = rw wide (above_not slots most_edges)

        nine : ltb slots n ≡ not (leb (count_of card) (length s.edges))
        nine = rw wide (above_not n slots)

        four : narrow (fed_by slots room reads) ≡ not (build_room? m)
        four = rw long (above_not (least_work + room) (length work))

        thirteen : WholeCard → full (card_book card) (fed_by slots room reads) ≡ not (fits? (size_of card) wanted m)
        thirteen w = rw (book_entries_lem w, long) (above_not (length (determined (graph_of (size_of card) wanted))) room)

    read_reaches : first_refusal (read_checks card m) ≡ 0 → Reaches slots room (size_of card) (settled_change (size_of card) wanted m) (card_book card)
    unfolding card_book
    read_reaches e =
        let (_, (_, (k, (edges, (few, (nine, (_, (held, _)))))))) = passing (read_checks card m) tt e in
        let w = whole edges in
        let (c, d) = test_yields (test_longest (size_of card).longest) k in
        let space : n ≤ slots = rw wide at (test_yields (test_le (count_of card) (length s.edges)) nine) in
        let is : rising (map (nth_edge card) (up_to n)) ≡ wanted = rw w.edges_are w.rises in
        record {
          answer = refl;
          size_is = refl;
          edges = rw (wide, is) refl;
          index = rw (long, is) refl;
          fine = record {
            bounds = record { vertices_least = omega arith; vertices_most = card_vertices card bytes; longest_least = c; longest_most = d };
            few = rw wide at (test_yields (test_le (length s.edges) most_edges) few);
            valid = rw w.edges_are w.valid;
            fits = rw is (omega (arith, w.count, space));
            held = rw is (rw long at (test_yields (test_le (length (determined (graph_of (size_of card) wanted))) (length s.index)) held));
          };
        }

    pub read_begins : (b : Book) → card_number card (fed_by slots room reads) ≡ 0
        → Matches slots room s reads.given (read_call card m) (turn b (fed_by slots room reads))
    unfolding turn
    read_begins b e =
        let z : first_refusal (read_checks card m) ≡ 0 = read_gives.is ∙ e in
        rw (sym read_gives.is) (begins b (card_book card) reads.given no_record (size_of card) nothing (λ n. refl) (read_result card m) z (read_reaches z))

    pub read_first : (b : Book) → reply_to reads.given (read_call card m).reply ≡ (turn b (fed_by slots room reads)).reply
    unfolding turn
    read_first b = rw (sym read_gives.is) (first_reply b (card_book card) reads.given no_record (size_of card) nothing (λ n. refl) (first_refusal (read_checks card m)) s (read_result card m) read_reaches)

  pub read_matches : {slots room : ℕ} {b : Book} → Fine slots room b
      → Matches slots room (station_of slots room b) reads.given (read_call card (memory_of (station_of slots room b) work)) (turn b (fed_by slots room reads))
  unfolding turn
  read_matches {slots} {room} {b} f =
      let s = station_of slots room b in
      rw (sym (read_gives s (edge_slots_lem f) (index_slots_lem f)).is)
      (matches b (card_book card) reads.given no_record (size_of card) nothing (λ n. refl) (first_refusal (read_checks card (memory_of s work))) (read_result card (memory_of s work)) f
      (read_reaches s (edge_slots_lem f) (index_slots_lem f)))
