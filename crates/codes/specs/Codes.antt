-- A code as a number: whether its digits repeat.
use Rattle.std.specs.Prelude.{◌≡◌, Bool, true, false, List, ℕ, suc, ◌+◌, ◌^◌, ◌≤◌, ◌<◌, length}
use Rattle.model.specs.Limits.{digit_unit, code_digits, hub_unit}
use Rattle.model.specs.Patterns.{times, Keyed}
use Rattle.model.specs.Computed.Query.{digits}

-- r says whether P holds
pub record Detects (P : Type 0) (r : Bool) : Type 0 where
  pub yields : r ≡ true → P
  pub misses : r ≡ false → ¬ P

-- l is d labels, written n + 2 times
pub record Repeats (l : List ℕ) (d : ℕ) : Type 0 where
  pub word : List ℕ
  pub n : ℕ
  pub long : length word ≡ d
  pub is : times (suc (suc n)) word ≡ l

-- a code whose digits are labels
pub record Spelled (c : ℕ) : Type 0 where
  pub below : c < hub_unit
  pub keyed : Keyed code_digits (digits code_digits c)

-- such a code, and a number of digits to try, with what so many digits count up to
pub record Repeatable (c d unit : ℕ) : Type 0 where
  pub spelled : Spelled c
  pub some : 1 ≤ d
  pub twice : d + d ≤ code_digits
  pub is : unit ≡ digit_unit ^ d
