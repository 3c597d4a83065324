-- Laws of the shape of every call: what it comes to, from the number of its refusal.
use mathlib.Core.Path.{◌≡◌, refl, sym, ap, ◌∙◌}
use Prim.Native.Nat.{ℕ, zero, suc}
use native.Mathlib.Omega.{arith}
use Rattle.model.specs.Replies.{number_of}
use Rattle.model.specs.declared.Refusal.{Refusal}
use Rattle.model.proofs.Replies.{number_some}
use Rattle.calls.specs.Call.{Memory, Outcome, refusing, Meets}

module _ {R : Type 0} (refused : ℕ → R) (m : Memory) (done : Outcome R) where
  -- a refusal is told, and memory is as it was
  pub refused_meets : (n : ℕ) (r : Refusal) → n ≡ number_of r → Meets (refusing refused m n done) (refused (number_of r)) m
  refused_meets zero r e = absurd (let h = number_some r in omega arith)
  refused_meets (suc n) r e = record { reply_is = ap refused (sym e); edges_after = refl; index_after = refl; work_after = refl; output_after = refl }

  pub accepted_is : (n : ℕ) → n ≡ 0 → refusing refused m n done ≡ done
  accepted_is zero e = refl
  accepted_is (suc n) e = absurd (omega arith)

-- by a reply that is known
pub meets_as : {R : Type 0} {c : Outcome R} {r r' : R} {m : Memory} → r ≡ r' → Meets c r m → Meets c r' m
meets_as e l =
    record {
      reply_is = sym e ∙ l.reply_is;
      edges_after = l.edges_after;
      index_after = l.index_after;
      work_after = l.work_after;
      output_after = l.output_after;
    }
