-- The ledger's chain of conditions gives the number of the calls' list of tests.
use mathlib.Core.Path.{◌≡◌, refl}
use mathlib.Core.Bool.{Bool, true, false, not, ◌&&◌, ◌||◌}
use mathlib.Core.List.{List, [], ◌∷◌}
use Prim.Native.Nat.{ℕ}
use native.Mathlib.Omega.{arith}
use lib.Dec.{ltb, leb}
use Rattle.model.specs.Computed.Lists.{within?}
use Rattle.model.proofs.Tests.{test_map, test_agree, test_not, test_le, test_lt}
use Rattle.calls.specs.Checks.{Check, first_refusal}
use Rattle.demands.specs.Ledger.{when, outside}

-- the list of tests gives that number
pub record Gives (checks : List Check) (n : ℕ) : Type 0 where
  pub is : first_refusal checks ≡ n

pub gives_none : Gives [] 0
gives_none = record { is = unfold first_refusal in refl }

-- a test that passes hands on to the next, and a condition that does not apply as well
pub chain : {n later' : ℕ} {test applies : Bool} {later : List Check} → applies ≡ not test → (test ≡ true → Gives later later')
    → Gives ((n, test) ∷ later) (when applies n later')
chain {n} {later'} {test} {applies} {later} e f = record { is = go test applies e f }
  where
    go : (test applies : Bool) → applies ≡ not test → (test ≡ true → Gives later later') → first_refusal ((n, test) ∷ later) ≡ when applies n later'
    go true applies e f = unfold first_refusal in rw e (f refl).is
    go false applies e f = unfold first_refusal in rw e refl

pub above_not : (a b : ℕ) → ltb b a ≡ not (leb a b)
above_not a b = test_agree (test_lt b a) (test_map (λ h. omega (arith, h)) (λ h k. omega (arith, h, k)) (test_not (test_le a b)))

pub from_not : (a b : ℕ) → leb b a ≡ not (ltb a b)
from_not a b = test_agree (test_le b a) (test_map (λ h. omega (arith, h)) (λ h k. omega (arith, h, k)) (test_not (test_lt a b)))

pub either_not : (a b : Bool) → not a || not b ≡ not (a && b)
either_not true b = refl
either_not false b = refl

pub not_not : (a : Bool) → a ≡ not (not a)
not_not true = refl
not_not false = refl

pub outside_not : (low high x : ℕ) → outside low high x ≡ not (within? low high x)
outside_not low high x = rw (above_not low x, above_not x high) (either_not (leb low x) (leb x high))
