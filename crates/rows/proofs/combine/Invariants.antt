-- `rows::combine` meets its contract. The invariant: the numbers passed are made.
use mathlib.Core.Path.{◌≡◌}
use Prim.Native.Nat.{ℕ, ◌<◌}
use lib.ListN.{get_or, length}
use Rattle.rows.specs.Region.{row_numbers}
use Rattle.rows.specs.Numbers.{number}
use Rattle.rows.proofs.combine.Given as goal

abbrev pub invariant-loop-i : goal.invariant-loop-i
invariant-loop-i g l =
    record {
      size : length l.row ≡ row_numbers;
      made : (k : ℕ) → k < l.i → goal.F-post g l.combined (number l.w l.a k) (number l.w l.b k) (get_or l.row k 0);
    }
