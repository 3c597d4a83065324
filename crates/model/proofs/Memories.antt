-- Checks 3 and 12 as statements: what they let pass is rising numbers of edges or entries, and then zeros, and no other memory.
use mathlib.Core.Path.{◌≡◌, sym, ap, ◌∙◌}
use mathlib.Core.Bool.{Bool, true}
use mathlib.Core.List.{List}
use Prim.Native.Nat.{ℕ, ◌-◌, ◌≤◌, ◌<◌}
use native.Mathlib.Omega.{arith}
use lib.Dec.{T}
use lib.ListN.{length}
use Rattle.model.specs.Limits.{most_vertices, most_edges, most_longest, hub_unit}
use Rattle.model.specs.Lists.{Padded}
use Rattle.model.specs.Edges.{from_of, label_of, to_of, OfEdge, standing}
use Rattle.model.specs.Query.{OfEntry}
use Rattle.model.specs.Computed.Edges.{edge?, rising?, rising_edges?, edge_memory?}
use Rattle.model.specs.Computed.Query.{side_of, owner_of, hub_of, code_of, entry?, rising_entries?, index_memory?}
use Rattle.model.proofs.Tests.{Tests, test_map, test_true, test_and, test_le}
use Rattle.model.proofs.Patterns.{code_below}
use Rattle.model.proofs.Edges.{edge_fields, test_edge}
use Rattle.model.proofs.Renumber.{entry_fields}
use Rattle.model.proofs.Zeros.{rising_zeros, ordered}
use Rattle.model.proofs.IndexMemory.{test_entry, code_some}
use Rattle.model.proofs.Codes.{test_code}

-- memory that passes a test slot by slot holds numbers of P
test_padded : {f : ℕ → Bool} {P : ℕ → Type 0} → ((x : ℕ) → Tests (f x) (P x)) → ((x : ℕ) → P x → 1 ≤ x) → (xs : List ℕ) → Tests (rising? f 0 xs) (Padded P xs)
test_padded {f} {P} tests some xs = record { yields = there; passes = back }
  where
    there : T (rising? f 0 xs) → Padded P xs
    there t =
        let o = ordered f 0 xs t in
        record { numbers = standing xs; rises = o.sorted; each = λ x m. (tests x).yields (rw (o.each x m).1 tt); zeros = o.zeros }

    back : Padded P xs → T (rising? f 0 xs)
    back h =
        let e : rising? f 0 xs ≡ true = ap (rising? f 0) h.zeros ∙ rising_zeros f (length xs - length h.numbers) 0 h.rises
        (λ x m. (some x (h.each x m), test_true (tests x) (h.each x m))) in
        rw e tt

-- ---- check 3

module _ (vertices : ℕ) (small : vertices ≤ most_vertices) where
  pub test_of_edge : (x : ℕ) → Tests (edge? vertices x) (OfEdge vertices x)
  test_of_edge x = test_map
      (λ h. record { from = from_of x; label = label_of x; to = to_of x; ends = (h.from, h.to); labelled = (h.label_low, h.label_high); is = omega arith })
      (λ h.
      let (a, b) = h.ends in
      let (c, d) = h.labelled in
      let (i, j, k) = edge_fields h.from h.label h.to (omega arith) (omega arith) in
      rw h.is (record { from = rw i a; label_low = rw j c; label_high = rw j d; to = rw k b }))
      (test_edge vertices x)

  -- its number is not 0
  pub edge_some : (x : ℕ) → OfEdge vertices x → 1 ≤ x
  edge_some x h = let (a, _) = h.labelled in omega (arith, a, h.is)

  pub test_edge_memory : (xs : List ℕ) → Tests (edge_memory? vertices xs) ((length xs ≤ most_edges) × Padded (OfEdge vertices) xs)
  unfolding edge_memory? rising_edges?
  test_edge_memory xs =
      test_and (test_le (length xs) most_edges) (test_padded test_of_edge edge_some xs)

  -- ---- check 12

  module _ (longest : ℕ) (short : longest ≤ most_longest) where
    pub test_of_entry : (x : ℕ) → Tests (entry? vertices longest x) (OfEntry vertices longest x)
    test_of_entry x = test_map
        (λ h. record {
          side = side_of x;
          owner = owner_of x;
          hub = hub_of x;
          number = code_of x;
          sides = h.side;
          ends = (h.owner, h.hub);
          coded = (test_code longest (code_of x) short (omega arith)).yields h.coded;
          is = omega arith;
        })
        (λ h.
        let (a, b) = h.ends in
        let c = h.coded in
        let below : h.number < hub_unit = rw (sym c.coded) (code_below short c.is.keyed) in
        let (f, q, r, n) = entry_fields h.side h.owner h.hub h.number (omega arith) (omega arith) below in
        rw h.is (record { side = rw f h.sides; owner = rw q a; hub = rw r b; coded = rw n ((test_code longest h.number short below).passes c) }))
        (test_entry vertices longest x)

    pub entry_some : (x : ℕ) → OfEntry vertices longest x → 1 ≤ x
    entry_some x h = let c = h.coded in omega (arith, h.is, c.coded, code_some c.pattern c.is.keyed)

    pub test_index_memory : (xs : List ℕ) → Tests (index_memory? vertices longest xs) (Padded (OfEntry vertices longest) xs)
    unfolding index_memory? rising_entries?
    test_index_memory xs = test_padded test_of_entry entry_some xs
