-- Edge memory saved in work memory.
use mathlib.Core.Path.{◌≡◌, ap, ◌∙◌}
use mathlib.Core.List.{List, ◌++◌}
use Prim.Native.Nat.{ℕ, ◌≤◌}
use native.Mathlib.Omega.{arith}
use lib.ListN.{length, take, drop, length-append}
use lib.Seq.{length-take-le, take-append-le, take-append_seam, drop_at}
use Rattle.rows.specs.Region.{saved_numbers}

-- edge memory stands in the saved region once it is copied to the front of the part from there on
pub saved_there : (edges work part rest behind : List ℕ) → saved_numbers ≤ length work → part ≡ edges ++ rest
    → take (length edges) (drop saved_numbers (take saved_numbers work ++ (part ++ behind))) ≡ edges
saved_there edges work part rest behind h e =
    ap (take (length edges)) (drop_at (take saved_numbers work) (part ++ behind) saved_numbers (length-take-le saved_numbers work h))
    ∙ rw e (take-append-le (length edges) (edges ++ rest) behind (omega (arith, long)) ∙ take-append_seam edges rest)
  where
    long : length edges ≤ length (edges ++ rest)
    long = rw (length-append edges rest) (omega arith)
