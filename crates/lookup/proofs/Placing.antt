-- The place of a pattern, digit by digit.
use mathlib.Core.Path.{◌≡◌}
use mathlib.Core.List.{List, [], ◌∷◌}
use Prim.Native.Nat.{ℕ, ◌+◌, ◌-◌, ◌*◌, ◌≤◌, ◌<◌}
use native.Mathlib.Numerals.{add-one}
use native.Mathlib.Omega.{arith}
use lib.ListN.{length, get_or, drop, drop_of_length-le}
use lib.Seq.{drop-cons}
use Rattle.model.specs.Limits.{most_label}
use Rattle.model.specs.Patterns.{Keyed}
use Rattle.model.specs.Computed.Table.{ordinal_from}
use Rattle.model.proofs.Lists.{get_d_in}

-- a label of a pattern
pub labelled : {k : ℕ} {l : List ℕ} → Keyed k l → (i : ℕ) → i < length l → (1 ≤ get_or l i 0) × (get_or l i 0 ≤ most_label)
labelled {l = l} p i h = p.labels (get_or l i 0) (get_d_in l i h)

-- the digits that are read already are `a`, and those from index i on are left
pub ordinal_more : (a i : ℕ) (l : List ℕ) → i < length l → ordinal_from (a * most_label + (get_or l i 0 - 1)) (drop (i + 1) l) ≡ ordinal_from a (drop i l)
unfolding ordinal_from
ordinal_more a i l h = rw (add-one, drop-cons l i 0)

-- if none are left, `a` is the ordinal
pub ordinal_end : {a i : ℕ} (l : List ℕ) → length l ≤ i → ordinal_from a (drop i l) ≡ ordinal_from 0 l → a ≡ ordinal_from 0 l
unfolding ordinal_from
ordinal_end l h e = rw (drop_of_length-le l h) at e

-- no digit lessens it
pub ordinal_ge : (a : ℕ) (l : List ℕ) → a ≤ ordinal_from a l
unfolding ordinal_from
ordinal_ge a [] = omega arith
ordinal_ge a (c ∷ l) = omega (arith, ordinal_ge (a * most_label + (c - 1)) l)
