-- From the checks of a card reading to the wanted edges, and from what settling leaves to what the call leaves.
use mathlib.Core.Path.{◌≡◌, sym, ◌∙◌}
use mathlib.Core.Bool.{true, false}
use mathlib.Core.List.{List, [], ◌∷◌}
use Prim.Native.Nat.{ℕ, ◌+◌, ◌≤◌, ◌<◌}
use native.Mathlib.Omega.{arith}
use lib.Dec.{leb}
use lib.ListN.{length, get_or, drop}
use Rattle.model.specs.Limits.{most_edges, least_work, head_bytes}
use Rattle.model.specs.Replies.{number_of}
use Rattle.model.specs.declared.Refusal.{Refusal}
use Rattle.model.proofs.Tests.{test_le, test_true, test_false, test_yields}
use Rattle.model.proofs.Replies.{number_some}
use Rattle.calls.specs.Call.{Size, Memory, Meets}
use Rattle.calls.specs.Change.{build_room?, settle}
use Rattle.calls.specs.Card.{size_of, count_of, edges_of, card_checks, card_refusal, read_refusal, read_change}
use Rattle.calls.proofs.Checks.{none, pass, stop, first_is, Passed, done, also, passes}
use Rattle.calls.proofs.Calls.{refused_meets, accepted_is}
use Rattle.calls.proofs.Change.{stop_first, pass_first, front_passes}
use Rattle.calls.proofs.Card.{CardGood, card_good, triples_good}
use Rattle.card_reading.specs.Card.{Fillable}
use Rattle.changes.specs.Changes.{Reads}
use Rattle.changes.proofs.Trying.{Wanted}

-- ---- the checks

module _ (card : List ℕ) (m : Memory) where
  -- a refusal of the card alone is the call's
  pub read_stops : (r : Refusal) → card_refusal card ≡ number_of r → read_refusal card m ≡ number_of r
  unfolding card_refusal read_refusal
  read_stops r e = stop_first (card_checks card) _ e (number_some r)

  -- and then 3, 9 and 4
  module _ (e : card_refusal card ≡ 0) where
    pub read_many : most_edges < length m.edges → read_refusal card m ≡ 3
    unfolding card_refusal read_refusal
    read_many h = pass_first (card_checks card) _ tt e ∙ first_is (stop (test_false (test_le (length m.edges) most_edges) (λ k. omega (arith, k, h))))

    module _ (few : length m.edges ≤ most_edges) where
      pub read_full : length m.edges < count_of card → read_refusal card m ≡ 9
      unfolding card_refusal read_refusal
      read_full h =
          pass_first (card_checks card) _ tt e
          ∙ first_is (pass (test_true (test_le (length m.edges) most_edges) few) (stop (test_false (test_le (count_of card) (length m.edges)) (λ k. omega (arith, k, h)))))

      -- 4 by its test
      module _ (fits : count_of card ≤ length m.edges) where
        pub read_short : build_room? m ≡ false → read_refusal card m ≡ 4
        unfolding card_refusal read_refusal
        read_short h =
            pass_first (card_checks card) _ tt e
            ∙ first_is (pass (test_true (test_le (length m.edges) most_edges) few) (pass (test_true (test_le (count_of card) (length m.edges)) fits) (stop h)))

        pub read_passes : build_room? m ≡ true → read_refusal card m ≡ 0
        unfolding card_refusal read_refusal
        read_passes h =
            pass_first (card_checks card) _ tt e
            ∙ first_is (pass (test_true (test_le (length m.edges) most_edges) few) (pass (test_true (test_le (count_of card) (length m.edges)) fits) (pass h none)))

-- what they leave
record ReadGood (card : List ℕ) (m : Memory) : Type 0 where
  alone : CardGood card
  few : length m.edges ≤ most_edges
  fits : count_of card ≤ length m.edges
  room : least_work + length m.index ≤ length m.work

good : (card : List ℕ) (m : Memory) → read_refusal card m ≡ 0 → ReadGood card m
unfolding card_refusal read_refusal
good card m e = go (passes _ tt (sym (pass_first (card_checks card) _ tt alone) ∙ e))
  where
    alone : card_refusal card ≡ 0
    alone = front_passes (card_checks card) _ e

    go : Passed ((3, leb (length m.edges) most_edges) ∷ (9, leb (count_of card) (length m.edges)) ∷ (4, build_room? m) ∷ []) → ReadGood card m
    go (also a (also b (also c done))) =
        record {
          alone = card_good card alone;
          few = test_yields (test_le (length m.edges) most_edges) a;
          fits = test_yields (test_le (count_of card) (length m.edges)) b;
          room = test_yields (test_le (least_work + length m.index) (length m.work)) c;
        }

-- ---- the edges of the card, and what is left

module _ {card : List ℕ} {m : Memory} {h : Size} {n : ℕ} (p : Reads card m h n) where
  pub read_fillable : Fillable card n m.edges
  read_fillable = rw p.count (record { whole = (good card m p.is).alone.whole; room = (good card m p.is).fits })

  -- the byte of the vertices is a byte
  pub read_wanted : get_or card 5 0 < 256 → Wanted h (edges_of (drop head_bytes card)) m n
  read_wanted b = rw p.size_is (let g = good card m p.is in
      let l = triples_good (size_of card).vertices 0 (drop head_bytes card) g.alone.triples (omega (arith, b)) in
      record {
        count = p.count ∙ sym g.alone.count;
        header = record { vertices_least = omega arith; vertices_most = omega (arith, b); longest_least = g.alone.longest_least; longest_most = g.alone.longest_most };
        few = g.few;
        fits = omega (arith, g.alone.count, g.fits);
        rises = l.rising;
        valid = λ x k. (l.each x k).1;
        room = g.room;
      })

  pub read_leaves : {k : ℕ} {left : Memory} → Meets (settle h (edges_of (drop head_bytes card)) m) k left → Meets (read_change card m) k left
  unfolding read_change
  read_leaves l = rw (accepted_is (λ n. n) m _ (read_refusal card m) p.is, sym p.size_is) l

pub refused_leaves : (card : List ℕ) (m : Memory) (r : Refusal) → read_refusal card m ≡ number_of r → Meets (read_change card m) (number_of r) m
unfolding read_change
refused_leaves card m r e = refused_meets (λ n. n) m _ (read_refusal card m) r e
