-- Room for the entries of a card's layout is enough to read it, and fewer slots are not.
use mathlib.Core.Path.{◌≡◌, ap, ◌∙◌}
use mathlib.Core.List.{List}
use Prim.Native.Nat.{ℕ, ◌≤◌, ◌<◌}
use native.Mathlib.Omega.{arith}
use lib.ListN.{length}
use Rattle.model.proofs.Tests.{test_le, test_true, test_false}
use Rattle.calls.specs.Checks.{first_refusal}
use Rattle.calls.specs.Call.{Memory, Outcome, Returned}
use Rattle.calls.specs.Card.{count_of, card_refusal, read_call}
use Rattle.calls.proofs.Checks.{none, pass, stop}
use Rattle.demands.specs.Demand2.{Roomy}
use Rattle.demands.specs.Needs.{needed, CardNeeds}
use Rattle.demands.proofs.Reading.{read_checks, read_result, own_pass, last_decides}

module _ (card : List ℕ) (own : card_refusal card ≡ 0) (m : Memory) (room : Roomy m (count_of card) (length m.index)) where
  accepts : needed card ≤ length m.index → (read_call card m).reply.answer ≡ 0
  accepts h =
      ap (λ (c : Outcome Returned). c.reply.answer)
      ((read_result card m).accepted (last_decides card m own room (pass (test_true (test_le (needed card) (length m.index)) h) none)))

  refuses : length m.index < needed card → (read_call card m).reply.answer ≡ 13
  refuses h =
      let n : first_refusal (read_checks card m) ≡ 13
      = last_decides card m own room (stop (test_false (test_le (needed card) (length m.index)) (λ k. omega (arith, h, k)))) in
      ap (λ (r : Returned). r.answer) ((read_result card m).reply (omega (arith, n))) ∙ n

pub card_needs : CardNeeds
card_needs card m e =
    let own = own_pass card m e in
    record {
      enough = λ m' room.
          accepts card own m' (record { edge_slots_lem = room.edge_slots_lem; few = room.few; index_slots_lem = omega arith; work = room.work }) room.index_slots_lem;
      short = λ m' room h. refuses card own m' room h;
    }
