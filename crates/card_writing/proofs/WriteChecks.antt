-- The checks of a card that is written: 17, once 1 2 3 have passed.
use mathlib.Core.Path.{◌≡◌}
use Prim.Native.Nat.{ℕ, ◌+◌, ◌*◌, ◌≤◌, ◌<◌}
use native.Mathlib.Omega.{arith}
use lib.ListN.{length}
use Rattle.model.specs.Limits.{head_bytes, triple_bytes}
use Rattle.model.specs.Edges.{standing}
use Rattle.model.proofs.Tests.{test_le, test_true, test_false}
use Rattle.calls.specs.Call.{Size, Memory}
use Rattle.calls.specs.Card.{write_refusal}
use Rattle.calls.proofs.Checks.{none, pass, stop}
use Rattle.checks.specs.LayoutChecks.{LayoutPasses}
use Rattle.checks.proofs.LayoutChecks.{layout_pass, layout_memory}
use Rattle.card_writing.specs.Card.{WritePasses}

module _ (h : Size) (m : Memory) {n : ℕ} (p : LayoutPasses h.vertices h.longest m.edges n) where
  pub write_short : length m.output < head_bytes + triple_bytes * n → write_refusal h m ≡ 17
  unfolding write_refusal
  write_short k =
      layout_pass p (stop (test_false (test_le (head_bytes + triple_bytes * length (standing m.edges)) (length m.output)) (λ l. omega (arith, l, k, (layout_memory p).count))))

  pub writes : head_bytes + triple_bytes * n ≤ length m.output → WritePasses h m n
  unfolding write_refusal
  writes k =
      let room : head_bytes + triple_bytes * length (standing m.edges) ≤ length m.output = omega (arith, k, (layout_memory p).count) in
      record {
        is = layout_pass p (pass (test_true (test_le (head_bytes + triple_bytes * length (standing m.edges)) (length m.output)) room) none);
        layout = p;
        room = k;
      }
