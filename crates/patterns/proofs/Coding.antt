-- The code of a pattern, digit by digit.
use mathlib.Core.Path.{◌≡◌}
use mathlib.Core.List.{List}
use Prim.Native.Nat.{ℕ, ◌+◌, ◌*◌, ◌≤◌, ◌<◌}
use native.Mathlib.Numerals.{add-one}
use lib.ListN.{length, get_or, drop, drop_of_length-le}
use lib.Seq.{drop-cons}
use Rattle.model.specs.Limits.{digit_unit}
use Rattle.model.specs.Patterns.{code_from, code}

-- the digits that are read already are `a`, and those from index i on are left
pub code_more : (a i : ℕ) (l : List ℕ) → i < length l → code_from (a * digit_unit + get_or l i 0) (drop (i + 1) l) ≡ code_from a (drop i l)
unfolding code_from
code_more a i l h = rw (add-one, drop-cons l i 0)

-- and if none are left, `a` is the code
pub code_end : {a i : ℕ} (l : List ℕ) → length l ≤ i → code_from a (drop i l) ≡ code l → a ≡ code l
unfolding code_from
code_end l h e = rw (drop_of_length-le l h) at e
