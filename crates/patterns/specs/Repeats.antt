-- What the recursion of the minimum repeat goes by.
use Rattle.std.specs.Prelude.{Bool, List, ℕ, suc, ◌-◌, ◌/◌, length, take}
use Rattle.model.specs.Patterns.{times}
use Rattle.model.specs.Computed.Lists.{same?}
use Rattle.model.specs.Computed.Patterns.{repeat_from}

-- the first d labels, written some whole number of times, give the pattern
unfoldable pub repeats? : List ℕ → ℕ → Bool
repeats? l d = same? (times (length l / d) (take d l)) l

-- the length of the minimum repeat if lengths below d are tried already
unfoldable pub length_from : List ℕ → ℕ → ℕ
length_from l d = length (repeat_from (suc (length l) - d) d l)
