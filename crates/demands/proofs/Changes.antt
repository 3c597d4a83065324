-- Laying and lifting: the calls on the station are the ledger's turns.
use mathlib.Core.Path.{◌≡◌, refl, sym}
use mathlib.Core.Logic.{◌⊎◌, inl, inr, ⊎_elim, ◌≢◌}
use mathlib.Core.Bool.{Bool, true, false, not, ◌||◌}
use mathlib.Core.List.Memᴰ
use mathlib.Core.List.{List, [], ◌∷◌, ◌++◌}
use Prim.Native.Nat.{ℕ, suc, ◌+◌, ◌*◌, ◌≤◌, ◌<◌}
use native.Mathlib.Omega.{arith}
use lib.Dec.{eqb, leb, ltb}
use lib.ListN.{length}
use Rattle.model.specs.Limits.{most_vertices, most_edges, most_label, most_longest, from_unit, least_work}
use Rattle.model.specs.Lists.{◌∈◌, keep, mem?, filled}
use Rattle.model.specs.Edges.{edge_number, standing}
use Rattle.model.specs.Computed.Edges.{edge?, label?, edge_memory?, insert_edge, remove_edge}
use Rattle.model.specs.Computed.Entries.{determined}
use Rattle.model.proofs.Tests.{Tests, test_false, test_yields, test_fails, test_map, test_agree, test_not, test_and, test_eq, test_le, test_lt, test_mem}
use Rattle.model.proofs.Lists.{keep_in, keep_out}
use Rattle.model.proofs.Edges.{edge_named}
use Rattle.model.proofs.Insertion.{length_insert, member_insert, rising_insert, length_remove, member_remove, rising_remove}
use Rattle.model.proofs.Memory.{edge_least, standing_filled, filled_memory}
use Rattle.calls.specs.Checks.{ends?, Check, first_refusal}
use Rattle.calls.specs.Call.{Memory, graph_of}
use Rattle.calls.specs.Change.{change_checks, fits?, insert_call, insert_change, insert_refusal, remove_call, remove_change, remove_refusal}
use Rattle.calls.proofs.Checks.{test_ends}
use Rattle.calls.proofs.Settling.{settled_change, settled}
use Rattle.calls.proofs.Passing.{passing}
use Rattle.demands.specs.Ledger.{Book, Fed, insertion, removal, rising, book_entries, narrow, full, named_number, inserted, insertion_number, removed, removal_number, showing, turn}
use Rattle.demands.specs.Run.Station.{Call, memory_of, fed_by}
use Rattle.demands.proofs.Rising.{EdgesOf, edge_below, rising_rises, rising_in, rising_out, rising_is}
use Rattle.demands.proofs.Numbers.{Gives, gives_none, chain, above_not, from_not, either_not, not_not, outside_not}
use Rattle.demands.proofs.Steps.{book_size, record_of, station_of, Fine, edge_slots_lem, index_slots_lem, Reaches, Matches, matches}

module _ {slots room : ℕ} {b : Book} (f : Fine slots room b) (from label to : ℕ) (work : List ℕ) where
  abbrev inserts : Call
  inserts = record { given = insertion from label to; work = work }

  abbrev removes : Call
  removes = record { given = removal from label to; work = work }

  abbrev x : ℕ
  x = edge_number from label to

  abbrev L : List ℕ
  L = rising b.edges

  abbrev m : Memory
  m = memory_of (station_of slots room b) work

  small : b.vertices ≤ most_vertices
  small = f.bounds.vertices_most

  listed : EdgesOf b.vertices L
  listed z k = f.valid z (rising_out b.edges k)

  stands : standing (filled slots L) ≡ L
  stands = standing_filled slots L (λ z k. omega (arith, edge_least b.vertices z (listed z k)))

  -- what is known of the named edge once its checks have passed
  record NamedEdge : Type 0 where
    valid : edge? b.vertices x ≡ true
    below : x < most_vertices * from_unit

  is_edge : ends? b.vertices from to ≡ true → label? label ≡ true → NamedEdge
  is_edge e k =
      let (p, q) = test_yields (test_ends b.vertices from to) e in
      let (u, v) = test_yields (test_and (test_le 1 label) (test_le label 8)) k in
      let valid = edge_named b.vertices from label to small p q u v in
      record { valid = valid; below = edge_below small valid }

  -- "1 2 3 4 5 6", then what is left
  named : (fed : Fed) → fed.edge_slots ≡ slots → fed.index_slots ≡ room → fed.work_slots ≡ length work → (later : List Check) {later' : ℕ}
      → (NamedEdge → Gives later later') → Gives (change_checks (book_size b) from label to m ++ later) (named_number b from label to fed later')
  unfolding named_number
  named fed e i w later g =
      chain (outside_not 1 most_vertices b.vertices) (λ _.
      chain (outside_not 1 most_longest b.longest) (λ _.
      chain three (λ _.
      chain four (λ _.
      chain five (λ ends.
      chain (outside_not 1 most_label label) (λ labelled. g (is_edge ends labelled)))))))
    where
      three : ltb most_edges fed.edge_slots ≡ not (edge_memory? b.vertices (filled slots L))
      three =
          rw (e, filled_memory b.vertices slots L f.fits f.few (rising_rises b.edges) listed)
          (test_false (test_lt most_edges slots) (λ h. omega (arith, h, f.few)))

      four : narrow fed ≡ not (leb (least_work + length (filled room (book_entries b))) (length work))
      four = rw (i, w, index_slots_lem f) (above_not (least_work + room) (length work))

      five : leb b.vertices from || leb b.vertices to ≡ not (ends? b.vertices from to)
      five = rw (from_not from b.vertices, from_not to b.vertices) (either_not (ltb from b.vertices) (ltb to b.vertices))

  -- the named edge stands if the ledger has it
  known : NamedEdge → mem? x (standing (filled slots L)) ≡ mem? x b.edges
  known q = rw stands (test_agree (test_mem x L) (test_map (λ k. rising_in b.edges q.below k) (λ k. rising_out b.edges k) (test_mem x b.edges)))

  -- the wanted edges as the ledger has them, and as edge memory gets them
  abbrev grown : List ℕ
  grown = insert_edge x (standing (filled slots L))

  abbrev less : List ℕ
  less = remove_edge x (standing (filled slots L))

  -- ---- laying

  module _ (q : NamedEdge) (new : mem? x b.edges ≡ false) where
    absent : ¬ (x ∈ L)
    absent k = test_fails (test_mem x b.edges) new (rising_out b.edges k)

    grown_in : {z : ℕ} → z ∈ grown → (z ≡ x) ⊎ (z ∈ L)
    grown_in {z} k = (member_insert x L z).0 (rw stands at k)

    grown_edges : EdgesOf b.vertices (x ∷ b.edges)
    grown_edges z k = ⊎_elim (λ e. rw e q.valid) (f.valid z) (Memᴰ.cases_cons k)

    inserted_is : rising (x ∷ b.edges) ≡ grown
    inserted_is =
        rw stands (rising_is (x ∷ b.edges) small
        (λ z k. ⊎_elim (λ e. rw e q.valid) (listed z) ((member_insert x L z).0 k))
        (rising_insert x L (rising_rises b.edges) absent)
        (λ z k. ⊎_elim (λ e. Memᴰ.head e) (λ j. Memᴰ.tail (rising_out b.edges j)) ((member_insert x L z).0 k))
        (λ z k. (member_insert x L z).1 (⊎_elim inl (λ j. inr (rising_in b.edges (edge_below small (f.valid z j)) j)) (Memᴰ.cases_cons k))))

    inserted_length : length (rising (x ∷ b.edges)) ≡ suc (length L)
    inserted_length = rw (inserted_is, stands) (length_insert x L)

  fresh : NamedEdge → not (mem? x (standing (filled slots L))) ≡ true → mem? x b.edges ≡ false
  fresh q e = test_false (test_mem x b.edges) (λ k. test_yields (test_not (test_mem x b.edges)) (rw (known q) at e) k)

  abbrev insert_checks : List Check
  insert_checks =
      change_checks (book_size b) from label to m
      ++ ((7, not (mem? x (standing m.edges))) ∷ (9, ltb (length (standing m.edges)) (length m.edges)) ∷ [])

  insert_gives : Gives (insert_checks ++ ((13, fits? (book_size b) grown m) ∷ []))
      (insertion_number b from label to (fed_by slots room inserts))
  unfolding insertion_number inserted
  insert_gives =
      named (fed_by slots room inserts) refl refl refl _ (λ q.
      chain (seven q) (λ new.
      let gone = fresh q new in
      chain (nine q gone) (λ _.
      chain (thirteen q gone) (λ _. gives_none))))
    where
      seven : NamedEdge → mem? x b.edges ≡ not (not (mem? x (standing (filled slots L))))
      seven q = rw (known q) (not_not (mem? x b.edges))

      nine : (q : NamedEdge) → mem? x b.edges ≡ false → ltb slots (length (rising (x ∷ b.edges))) ≡ not (ltb (length (standing (filled slots L))) (length (filled slots L)))
      nine q e =
          rw (inserted_length q e, stands, edge_slots_lem f)
          (test_agree (test_lt slots (suc (length L))) (test_map (λ h. omega (arith, h)) (λ h k. omega (arith, h, k)) (test_not (test_lt (length L) slots))))

      thirteen : (q : NamedEdge) → mem? x b.edges ≡ false → full (inserted b x) (fed_by slots room inserts) ≡ not (fits? (book_size b) grown m)
      thirteen q e = rw (inserted_is q e, index_slots_lem f) (above_not (length (determined (graph_of (book_size b) grown))) room)

  insert_reaches : first_refusal (insert_checks ++ ((13, fits? (book_size b) grown m) ∷ [])) ≡ 0 → Reaches slots room (book_size b) (settled_change (book_size b) grown m) (inserted b x)
  unfolding inserted
  insert_reaches e =
      let p = (passing (insert_checks ++ ((13, fits? (book_size b) grown m) ∷ [])) tt e).1.1.1.1 in
      let (ends, (labelled, (new, (nine, (held, _))))) = p in
      let q = is_edge ends labelled in
      let gone = fresh q new in
      let is = inserted_is q gone in
      let space : length L < slots = rw (stands, edge_slots_lem f) at (test_yields (test_lt (length (standing (filled slots L))) (length (filled slots L))) nine) in
      record {
        answer = refl;
        size_is = refl;
        edges = rw (edge_slots_lem f, is) refl;
        index = rw (index_slots_lem f, is) refl;
        fine = record {
          bounds = f.bounds;
          few = f.few;
          valid = grown_edges q gone;
          fits = omega (arith, inserted_length q gone, space);
          held = rw is (rw (index_slots_lem f) at (test_yields (test_le (length (determined (graph_of (book_size b) grown))) (length (filled room (book_entries b)))) held));
        };
      }

  pub insert_matches : Matches slots room (station_of slots room b) inserts.given (insert_call (record_of b) from label to m) (turn b (fed_by slots room inserts))
  unfolding insert_call insert_change insert_refusal turn
  insert_matches =
      let r = settled (record_of b) (book_size b) grown m insert_checks tt in
      rw (sym insert_gives.is)
      (matches b (inserted b x) inserts.given (record_of b) (book_size b) (showing b) (λ n. refl)
      (first_refusal (insert_checks ++ ((13, fits? (book_size b) grown m) ∷ []))) r f insert_reaches)

  -- ---- lifting

  abbrev others : ℕ → Bool
  others z = not (eqb z x)

  test_others : (z : ℕ) → Tests (others z) (z ≢ x)
  test_others z = test_not (test_eq z x)

  removed_is : rising (keep others b.edges) ≡ less
  removed_is =
      rw stands (rising_is (keep others b.edges) small
      (λ z k. listed z ((member_remove x L (rising_rises b.edges) z).0 k).0)
      (rising_remove x L (rising_rises b.edges))
      (λ z k. let (a, d) = (member_remove x L (rising_rises b.edges) z).0 k in keep_in others (rising_out b.edges a) ((test_others z).passes d))
      (λ z k. let (a, d) = keep_out others b.edges k in
      (member_remove x L (rising_rises b.edges) z).1 (rising_in b.edges (edge_below small (f.valid z a)) a, (test_others z).yields d)))

  abbrev remove_checks : List Check
  remove_checks = change_checks (book_size b) from label to m ++ ((8, mem? x (standing m.edges)) ∷ [])

  remove_gives : Gives (remove_checks ++ ((13, fits? (book_size b) less m) ∷ [])) (removal_number b from label to (fed_by slots room removes))
  unfolding removal_number removed
  remove_gives =
      named (fed_by slots room removes) refl refl refl _ (λ q.
      chain (eight q) (λ _.
      chain thirteen (λ _. gives_none)))
    where
      eight : NamedEdge → not (mem? x b.edges) ≡ not (mem? x (standing (filled slots L)))
      eight q = rw (known q) refl

      thirteen : full (removed b x) (fed_by slots room removes) ≡ not (fits? (book_size b) less m)
      thirteen = rw (removed_is, index_slots_lem f) (above_not (length (determined (graph_of (book_size b) less))) room)

  remove_reaches : first_refusal (remove_checks ++ ((13, fits? (book_size b) less m) ∷ [])) ≡ 0 → Reaches slots room (book_size b) (settled_change (book_size b) less m) (removed b x)
  unfolding removed
  remove_reaches e =
      let p = (passing (remove_checks ++ ((13, fits? (book_size b) less m) ∷ [])) tt e).1.1.1.1 in
      let (ends, (labelled, (there, (held, _)))) = p in
      let q = is_edge ends labelled in
      let here : x ∈ L = rw stands at (test_yields (test_mem x (standing (filled slots L))) there) in
      let size : length (rising (keep others b.edges)) < length L = rw (removed_is, stands) (omega (arith, length_remove x L here)) in
      record {
        answer = refl;
        size_is = refl;
        edges = rw (edge_slots_lem f, removed_is) refl;
        index = rw (index_slots_lem f, removed_is) refl;
        fine = record {
          bounds = f.bounds;
          few = f.few;
          valid = λ z k. f.valid z (keep_out others b.edges k).0;
          fits = omega (arith, size, f.fits);
          held = rw removed_is (rw (index_slots_lem f) at (test_yields (test_le (length (determined (graph_of (book_size b) less))) (length (filled room (book_entries b)))) held));
        };
      }

  pub remove_matches : Matches slots room (station_of slots room b) removes.given (remove_call (record_of b) from label to m) (turn b (fed_by slots room removes))
  unfolding remove_call remove_change remove_refusal turn
  remove_matches =
      let r = settled (record_of b) (book_size b) less m remove_checks tt in
      rw (sym remove_gives.is)
      (matches b (removed b x) removes.given (record_of b) (book_size b) (showing b) (λ n. refl)
      (first_refusal (remove_checks ++ ((13, fits? (book_size b) less m) ∷ []))) r f remove_reaches)
