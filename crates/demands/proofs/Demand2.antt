-- Demand 2 holds.
use mathlib.Core.Path.{◌≡◌, refl, sym, ap, ap₂, ◌∙◌}
use mathlib.Core.Bool.{true}
use mathlib.Core.List.{List, [], ◌∷◌, ◌++◌}
use Prim.Native.Nat.{ℕ, zero, suc, ◌+◌, ◌*◌, ◌≤◌}
use native.Mathlib.Omega.{arith}
use lib.Dec.{leb}
use lib.ListN.{length, take, drop}
use lib.Seq.{take-append_seam}
use Rattle.model.specs.Limits.{head_bytes, triple_bytes}
use Rattle.model.specs.Lists.{filled, Bytes}
use Rattle.model.specs.Edges.{standing, totals_of}
use Rattle.model.specs.Computed.Edges.{edge_memory?}
use Rattle.model.specs.Computed.Entries.{determined}
use Rattle.model.proofs.Tests.{test_true, test_le}
use Rattle.model.proofs.Memory.{edge_memory, edge_least, standing_filled, standing_some, filled_memory}
use Rattle.model.proofs.Zeros.{filled_within}
use Rattle.calls.specs.Checks.{vertices?, longest?, Check}
use Rattle.calls.specs.Call.{Size, graph_of, Memory, Outcome, no_record, Wrote, Length}
use Rattle.calls.specs.Change.{handing, fits?}
use Rattle.calls.specs.Card.{size_of, count_of, edges_of, card_of, read_call, write_refusal, write_call}
use Rattle.calls.proofs.Checks.{none, pass, first_is, bounded, bounds_pass}
use Rattle.calls.proofs.Card.{card_good, Cardable, CardSays, card_says, card_again}
use Rattle.calls.proofs.Settling.{settled_change}
use Rattle.calls.proofs.Passing.{passing}
use Rattle.demands.specs.Demand2.{Roomy, Restores, Demand2}
use Rattle.demands.proofs.Demand1.{kind, number_in}
use Rattle.demands.proofs.Reading.{read_result, last_decides, Said, read_said}
use Rattle.demands.proofs.Right.{open_right, insert_right, remove_right, read_right}

-- ---- (b) a card that was written, read again

-- the length, and the checks that have passed
record Accepted (h : Size) (w : Memory) (n : ℕ) : Type 0 where
  size : n ≡ length (card_of h (standing w.edges))
  out : (write_call h w).memory.output ≡ card_of h (standing w.edges) ++ drop n w.output
  cardable : Cardable h (standing w.edges)

abbrev write_checks : Size → Memory → List Check
write_checks h w =
    (1, vertices? h.vertices)
    ∷ (2, longest? h.longest)
    ∷ (3, edge_memory? h.vertices w.edges)
    ∷ (17, leb (head_bytes + triple_bytes * length (standing w.edges)) (length w.output))
    ∷ []

wrote : (h : Size) (w : Memory) {n : ℕ} → (write_call h w).reply ≡ Length n → Accepted h w n
unfolding write_call
wrote h w {n} e = go (write_refusal h w) refl e
  where
    go : (k : ℕ) → write_refusal h w ≡ k → (write_call h w).reply ≡ Length n → Accepted h w n
    go (suc k) q e = absurd (let z : 1 ≡ 0 = ap kind (rw q at e) in omega (arith, z))
    go zero q e =
        let (v, (k, (mem, _))) = passing (write_checks h w) tt (unfold write_refusal in q) in
        let (few, s) = edge_memory h.vertices w.edges mem in
        let size : length (card_of h (standing w.edges)) ≡ n = ap number_in (rw q at e) in
        record {
          size = sym size;
          out = rw (q, sym size) refl;
          cardable = record {
            bounds = bounded v k;
            few = omega (arith, few, filled_within (standing w.edges) s.zeros);
            rising = s.sorted;
            valid = λ x k. (s.each x k).1;
          };
        }

-- a card that passes its own checks is accepted if memory has room for it
read_accepted : (card : List ℕ) (m : Memory) {h : Size} {edges : List ℕ} → CardSays card h edges → Roomy m (length edges) (length (determined (graph_of h edges)))
    → read_call card m ≡ handing no_record h (settled_change h edges m)
read_accepted card m {h} {edges} says room =
    let slots : Roomy m (count_of card) (length m.index)
    = record { edge_slots_lem = omega (arith, says.count, room.edge_slots_lem); few = room.few; index_slots_lem = omega arith; work = room.work } in
    (read_result card m).accepted (last_decides card m says.passes slots (pass thirteen none))
    ∙ ap₂ (λ (k : Size) (l : List ℕ). handing no_record k (settled_change k l m)) says.size_is says.edges_are
  where
    thirteen : fits? (size_of card) (edges_of (drop head_bytes card)) m ≡ true
    thirteen = ap₂ (λ (k : Size) (l : List ℕ). fits? k l m) says.size_is says.edges_are ∙ (test_true (test_le (length (determined (graph_of h edges))) (length m.index)) room.index_slots_lem)

reading : (h : Size) (w : Memory) (n : ℕ) (m : Memory) → (write_call h w).reply ≡ Length n
    → Roomy m (length (standing w.edges)) (length (determined (graph_of h (standing w.edges))))
    → Restores h w.edges m (read_call (take n (write_call h w).memory.output) m)
reading h w n m e room =
    let a = wrote h w e in
    let card = card_of h (standing w.edges) in
    let bytes : take n (write_call h w).memory.output ≡ card
    = rw a.out (ap (λ (k : ℕ). take k (card ++ drop n w.output)) a.size ∙ take-append_seam card (drop n w.output)) in
    let stands : standing (filled (length m.edges) (standing w.edges)) ≡ standing w.edges
    = standing_filled (length m.edges) (standing w.edges) (λ x k. standing_some w.edges k) in
    rw (bytes, read_accepted card m (card_says a.cardable) room) (record {
      accepted = refl;
      size_back = refl;
      totals_back = ap totals_of stands;
      edges_back = refl;
      index_back = refl;
    })

-- ---- (c) a card that was read, written again

-- what a written card comes to
record WritesBack (bytes output : List ℕ) (w : Outcome Wrote) : Type 0 where
  reply : w.reply ≡ Length (length bytes)
  output_is : w.memory.output ≡ bytes ++ drop (length bytes) output

writes_back : (bytes output : List ℕ) (m : Memory) → Bytes bytes → Said bytes m → length bytes ≤ length output
    → WritesBack bytes output (write_call (size_of bytes) (record { edges = filled (length m.edges) (edges_of (drop head_bytes bytes)); index = []; work = []; output = output }))
unfolding write_call write_refusal
writes_back bytes output m small c long = rw (no_refusal, stands, card_again bytes c.passes small) (record { reply = refl; output_is = refl })
  where
    wanted : List ℕ
    wanted = edges_of (drop head_bytes bytes)

    w : Memory
    w = record { edges = filled (length m.edges) wanted; index = []; work = []; output = output }

    stands : standing (filled (length m.edges) wanted) ≡ wanted
    stands = standing_filled (length m.edges) wanted (λ x k. omega (arith, edge_least (size_of bytes).vertices x (c.valid x k)))

    size : head_bytes + triple_bytes * length wanted ≡ length bytes
    size = omega (arith, (card_good bytes c.passes).count, (card_good bytes c.passes).whole)

    seventeen : leb (head_bytes + triple_bytes * length (standing (filled (length m.edges) wanted))) (length output) ≡ true
    seventeen = rw (stands, size) (test_true (test_le (length bytes) (length output)) long)

    no_refusal : write_refusal (size_of bytes) w ≡ 0
    no_refusal =
        first_is (bounds_pass c.bounds
        (pass (filled_memory (size_of bytes).vertices (length m.edges) wanted c.fits c.few c.rising c.valid) (pass seventeen none)))

writing : (bytes output : List ℕ) (m : Memory) → Bytes bytes → (read_call bytes m).reply.answer ≡ 0 → length bytes ≤ length output →
    let c = read_call bytes m in
    let w = write_call c.reply.header.size (record { edges = c.memory.edges; index = []; work = []; output = output }) in
    (w.reply ≡ Length (length bytes)) × (w.memory.output ≡ bytes ++ drop (length bytes) output)
writing bytes output m small e long =
    let c = read_said bytes m small e in
    let b = writes_back bytes output m small c long in
    rw c.is (b.reply, b.output_is)

pub demand2 : Demand2
demand2 =
    record {
      opens = open_right;
      inserts = insert_right;
      removes = remove_right;
      reads = read_right;
      reading = reading;
      writing = writing;
    }
