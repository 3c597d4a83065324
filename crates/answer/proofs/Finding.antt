-- What a binary search among rising numbers says of membership.
use Rattle.std.proofs.lemmas.List.Sorted.{searched}
use Rattle.std.specs.List.Sorted.{IsBinarySearchResult}
use Rattle.std.specs.Ordering.{nat_cmp}
use Rattle.std.specs.Prelude.{Result, Ok, Err}
use Rattle.std.specs.Result.{is_ok}
use mathlib.Core.Path.{◌≡◌, sym}
use mathlib.Core.List.{List}
use Prim.Native.Nat.{ℕ}
use native.Mathlib.Decide.{dec_lt}
use native.Mathlib.Omega.{arith}
use Rattle.model.specs.Lists.{mem?, Rising}
use Rattle.model.proofs.Tests.{test_true, test_false, test_mem}
use Rattle.model.proofs.Lists.{get_d_in, in_get_d, rising_le}

pub found_member : (xs : List ℕ) (x : ℕ) (r : Result ℕ ℕ) → Rising xs → IsBinarySearchResult (λ y. nat_cmp y x) xs r → is_ok r ≡ mem? x xs
found_member xs x (Ok i) up h =
    let s = searched xs x (Ok i) h (rising_le up) in
    sym (test_true (test_mem x xs) (rw s.1 at (get_d_in xs i s.0)))
found_member xs x (Err i) up h =
    let s = searched xs x (Err i) h (rising_le up) in
    sym (test_false (test_mem x xs) (λ m.
    let at = in_get_d m in
    elim (dec_lt at.i i) [ yes l ↦ omega (arith, s.1 at.i l, at.is) | no l ↦ omega (arith, s.2 at.i (omega arith) at.inside, at.is) ]))
