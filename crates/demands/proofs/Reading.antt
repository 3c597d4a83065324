-- Card reading by its checks, and what they say of a card that was read.
use mathlib.Core.Path.{◌≡◌, ◌∙◌}
use mathlib.Core.Bool.{true}
use mathlib.Core.List.{List, [], ◌∷◌, ◌++◌}
use Prim.Native.Nat.{ℕ, ◌+◌, ◌≤◌}
use native.Mathlib.Omega.{arith}
use lib.Dec.{leb}
use lib.ListN.{length, drop}
use Rattle.model.specs.Limits.{most_edges, least_work, head_bytes}
use Rattle.model.specs.Lists.{◌∈◌, Rising, Bytes}
use Rattle.model.specs.Edges.{Bounds}
use Rattle.model.specs.Computed.Edges.{edge?}
use Rattle.model.proofs.Tests.{test_true, test_yields, test_le}
use Rattle.calls.specs.Checks.{Check, first_refusal}
use Rattle.calls.specs.Call.{Memory, no_record}
use Rattle.calls.specs.Change.{handing, build_room?, fits?}
use Rattle.calls.specs.Card.{size_of, count_of, edges_of, card_checks, card_refusal, read_refusal, read_change, read_call}
use Rattle.calls.proofs.Checks.{First, pass, first_is}
use Rattle.calls.proofs.Change.{pass_first, front_passes}
use Rattle.calls.proofs.Card.{triples_good, card_good, card_vertices}
use Rattle.calls.proofs.Settling.{Result, settled_change, settled, accepted_zero}
use Rattle.calls.proofs.Passing.{passing}
use Rattle.demands.specs.Demand2.{Roomy}

module _ (card : List ℕ) (m : Memory) where
  -- "14 15 2 16", then "3 9 4", then 13
  abbrev memory_checks : List Check
  memory_checks = (3, leb (length m.edges) most_edges) ∷ (9, leb (count_of card) (length m.edges)) ∷ (4, build_room? m) ∷ []

  abbrev pub last_check : List Check
  last_check = (13, fits? (size_of card) (edges_of (drop head_bytes card)) m) ∷ []

  abbrev pub read_checks : List Check
  read_checks = (card_checks card ++ memory_checks) ++ last_check

  pub read_result : Result (read_call card m) no_record m (handing no_record (size_of card) (settled_change (size_of card) (edges_of (drop head_bytes card)) m))
      (first_refusal read_checks)
  unfolding read_call read_change read_refusal
  read_result = settled no_record (size_of card) (edges_of (drop head_bytes card)) m (card_checks card ++ memory_checks) tt

  -- a card that is accepted passes its own checks
  pub own_pass : (read_call card m).reply.answer ≡ 0 → card_refusal card ≡ 0
  unfolding card_refusal
  own_pass e =
      front_passes (card_checks card) memory_checks (front_passes (card_checks card ++ memory_checks) last_check (accepted_zero (first_refusal read_checks) read_result e))

  -- if it passes them, and memory has room for its edges and the work memory that its index slots ask for, 13 alone decides
  pub last_decides : card_refusal card ≡ 0 → Roomy m (count_of card) (length m.index) → {n : ℕ} → First last_check n → first_refusal read_checks ≡ n
  unfolding card_refusal
  last_decides own room f =
      pass_first (card_checks card) (memory_checks ++ last_check) tt own
      ∙ first_is (pass (test_true (test_le (length m.edges) most_edges) room.few)
      (pass (test_true (test_le (count_of card) (length m.edges)) room.edge_slots_lem)
      (pass (test_true (test_le (least_work + length m.index) (length m.work)) room.work) f)))

-- what is known of a card that was read
pub record Said (card : List ℕ) (m : Memory) : Type 0 where
  pub passes : card_refusal card ≡ 0
  pub is : read_call card m ≡ handing no_record (size_of card) (settled_change (size_of card) (edges_of (drop head_bytes card)) m)
  pub bounds : Bounds (size_of card).vertices (size_of card).longest
  pub few : length m.edges ≤ most_edges
  pub fits : length (edges_of (drop head_bytes card)) ≤ length m.edges
  pub rising : Rising (edges_of (drop head_bytes card))
  pub valid : (x : ℕ) → x ∈ edges_of (drop head_bytes card) → edge? (size_of card).vertices x ≡ true

pub read_said : (card : List ℕ) (m : Memory) → Bytes card → (read_call card m).reply.answer ≡ 0 → Said card m
read_said card m bytes e =
    let q = accepted_zero _ (read_result card m) e in
    let (_, (_, (_, (_, (few, (nine, _)))))) = passing (read_checks card m) tt q in
    let own = own_pass card m e in
    let g = card_good card own in
    let triples = triples_good (size_of card).vertices 0 (drop head_bytes card) g.triples (card_vertices card bytes) in
    record {
      passes = own;
      is = (read_result card m).accepted q;
      bounds = record {
        vertices_least = omega arith;
        vertices_most = card_vertices card bytes;
        longest_least = g.longest_least;
        longest_most = g.longest_most;
      };
      few = test_yields (test_le (length m.edges) most_edges) few;
      fits = omega (arith, g.count, test_yields (test_le (count_of card) (length m.edges)) nine);
      rising = triples.rising;
      valid = λ x k. (triples.each x k).1;
    }
