-- The joining of two lists: what has been passed shares no hub with the code.
use mathlib.Core.Path.{◌≡◌}
use mathlib.Core.Bool.{true, false}
use mathlib.Core.List.{List}
use Prim.Native.Nat.{ℕ, ◌+◌, ◌≤◌, ◌<◌}
use native.Mathlib.Decide.{ℕ_discrete, dec_lt}
use native.Mathlib.Omega.{arith}
use lib.ListN.{length, get_or}
use Rattle.answer.specs.Parts.{low_of, HubRising, Match, Shared, Joins}

-- the loops stand at slots i and j: the out slots before i match nothing, and the in slots before j lie below every out slot from i on
pub record Joining (out into : List ℕ) (code i j : ℕ) : Type 0 where
  pub passed : (p q : ℕ) → p < i → q < length into → ¬ Match out into code p q
  pub behind : (p q : ℕ) → i ≤ p → p < length out → q < j → low_of (get_or into q 0) < low_of (get_or out p 0)

pub joining_start : (out into : List ℕ) (code : ℕ) → Joining out into code 0 0
joining_start out into code = record { passed = λ p q h. absurd (omega arith); behind = λ p q h k l. absurd (omega arith) }

-- numbers that rise, at two slots that may be the same
hub_rising_le : {xs : List ℕ} → HubRising xs → (p q : ℕ) → p ≤ q → q < length xs → low_of (get_or xs p 0) ≤ low_of (get_or xs q 0)
hub_rising_le {xs} l p q h k = elim (ℕ_discrete p q) [ yes e ↦ rw e (omega arith) | no n ↦ omega (arith, l.rises p q (omega arith) k) ]

module _ {out into : List ℕ} {code i j : ℕ} (g : Joining out into code i j) where
  -- the in slot lies below: on to the next
  pub joining_on : HubRising out → low_of (get_or into j 0) < low_of (get_or out i 0) → Joining out into code i (j + 1)
  joining_on l h = record {
    passed = g.passed;
    behind = λ p q a b c. elim (ℕ_discrete q j) [ yes e ↦ rw e (omega (arith, hub_rising_le l i p a b)) | no n ↦ g.behind p q a b (omega arith) ];
  }

  -- nothing from j on matches the out slot: on to the next
  pub joining_next : i < length out → ((q : ℕ) → j ≤ q → q < length into → ¬ Match out into code i q) → Joining out into code (i + 1) j
  joining_next h n = record {
    passed = λ p q a b m. elim (ℕ_discrete p i) [ yes e ↦ here q b (rw e at m) | no d ↦ g.passed p q (omega arith) b m ];
    behind = λ p q a b c. g.behind p q (omega arith) b c;
  }
    where
      here : (q : ℕ) → q < length into → ¬ Match out into code i q
      here q b m = elim (dec_lt q j) [ yes l ↦ omega (arith, g.behind i q (omega arith) h l, m.same) | no l ↦ n q (omega arith) b m ]

  -- because the in slot lies above
  pub joining_past : i < length out → HubRising into → low_of (get_or out i 0) < low_of (get_or into j 0) → Joining out into code (i + 1) j
  joining_past h l k = joining_next h (λ q a b m. omega (arith, hub_rising_le l j q a b, m.same))

  pub joining_none : length out ≤ i → Joins out into code false
  joining_none h = record {
    yields = λ e. absurd (let z : ◌≡◌ {A = ℕ} 0 1 = cc in omega arith);
    misses = λ _ s. g.passed s.p s.q (omega (arith, s.p_inside)) s.q_inside s.match;
  }

pub joining_found : {out into : List ℕ} {code : ℕ} → Shared out into code → Joins out into code true
joining_found s = record { yields = λ _. s; misses = λ e. absurd (let z : ◌≡◌ {A = ℕ} 0 1 = cc in omega arith) }
