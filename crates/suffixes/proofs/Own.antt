-- A pattern is its own minimum repeat if that is as long as the pattern.
use mathlib.Core.Path.{◌≡◌, ap, sym, ◌∙◌}
use mathlib.Core.List.{List}
use Prim.Native.Nat.{ℕ}
use lib.Dec.{eqb}
use lib.ListN.{length, take}
use lib.Seq.{take-length}
use Rattle.model.specs.Limits.{most_longest}
use Rattle.model.specs.Patterns.{Keyed}
use Rattle.model.specs.Computed.Patterns.{min_repeat, folded_length, own?}
use Rattle.model.proofs.Tests.{test_map, test_agree, test_eq, test_same}
use Rattle.model.proofs.Patterns.{repeat_front, folded_length_lem}

-- equal length makes it the pattern
same_long : (l : List ℕ) → Keyed most_longest l → length (min_repeat l) ≡ length l → min_repeat l ≡ l
same_long l p e = sym (repeat_front l p.long) ∙ ap (λ (n : ℕ). take n l) e ∙ take-length l

pub own_length : (l : List ℕ) (n : ℕ) → Keyed most_longest l → n ≡ folded_length l → eqb n (length l) ≡ own? l
unfolding own?
own_length l n p e =
    let long : n ≡ length (min_repeat l) = e ∙ folded_length_lem l p in
    test_agree (test_eq n (length l)) (test_map (λ q. long ∙ ap length q) (λ q. same_long l p (sym long ∙ q)) (test_same (min_repeat l) l))
