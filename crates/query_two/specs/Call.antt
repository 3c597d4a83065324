-- What a query by two patterns comes to past its first checks.
use Rattle.std.specs.Prelude.{◌≡◌, false, List, ℕ}
use Rattle.model.specs.Middles.{TwoAnswered}
use Rattle.calls.specs.Call.{Size, Memory, Meets}
use Rattle.calls.specs.QueryTwo.{either_lacks?, query_two_call}

-- past the checks before all memory and the rule of totals: reply and memory are the call's, whatever the totals are
pub record FullTwo (size : Size) (start destination : ℕ) (first second : List ℕ) (m : Memory) (reply : TwoAnswered) (m' : Memory) : Type 0 where
  pub is : (totals : List ℕ) → either_lacks? totals first second ≡ false
      → Meets (query_two_call (record { size = size; totals = totals }) start destination first second m) reply m'
