-- What the rotations of `insert` and `remove` leave: an edge is put in or taken out, and the slots behind the turned part stay as they were.
use mathlib.Core.Path.{◌≡◌, refl, sym, ap, subst, ◌∙◌}
use mathlib.Core.Bool.{Bool, true, false, cond}
use mathlib.Core.List.{List, [], ◌∷◌, ◌++◌, append_assoc}
use Prim.Native.Nat.{ℕ, zero, suc, ◌+◌, ◌-◌, ◌≤◌, ◌<◌}
use native.Mathlib.Nat.{le_of_suc-le-suc, not-suc-le-zero}
use native.Mathlib.Omega.{arith}
use borrow.Rule.Slice.PartMut.{mid_of, put_mid}
use lib.Dec.{eqb}
use lib.ListN.{length, get_or, set, take, drop, replicate, length-append, length-replicate, length-set, replicate-append-replicate}
use lib.Seq.{take-append_seam, drop-append_seam, append_snoc, get_or-take}
use Rattle.std.specs.List.{remove}
use Rattle.std.proofs.lemmas.List.Edits.{length-remove, remove-append_left}
use Rattle.model.specs.Lists.{filled}
use Rattle.model.specs.Edges.{standing}
use Rattle.model.specs.Computed.Edges.{insert_edge, remove_edge}
use Rattle.model.proofs.Lists.{part_all}
use Rattle.model.proofs.Zeros.{filled_within, filled_front}
use Rattle.model.proofs.Insertion.{Placed, last, here, past, placed, placed_most, Removed, first, later, removed, length_insert}
use Rattle.edges.specs.Memory.{Insertable, Removable}
use Rattle.edges.proofs.Turned.{led, tailed}

-- ---- the first free slot, counted from the slot of an edge on

standing_from : (xs : List ℕ) (at : ℕ) → at ≤ length (standing xs) → at + length (standing (drop at xs)) ≡ length (standing xs)
unfolding standing
standing_from xs zero h = omega arith
standing_from [] (suc at) h = absurd (not-suc-le-zero h)
standing_from (x ∷ xs) (suc at) h = go (eqb x 0) (standing_from xs at) h
  where
    go : (free : Bool) → (at ≤ length (standing xs) → at + length (standing (drop at xs)) ≡ length (standing xs)) → suc at ≤ length (cond free [] (x ∷ standing xs))
        → suc at + length (standing (drop at xs)) ≡ length (cond free [] (x ∷ standing xs))
    go true more l = absurd (not-suc-le-zero l)
    go false more l = omega (arith, more (le_of_suc-le-suc l))

first_free : (xs : List ℕ) (at : ℕ) → at ≤ length (standing xs) → at + length (standing (mid_of at (length xs - at) xs)) ≡ length (standing xs)
first_free xs at h = rw (part_all xs at) (standing_from xs at h)

-- ---- the insertion

part_front : (ys : List ℕ) (z : ℕ) (rest : List ℕ) → take (suc (length ys)) (ys ++ z ∷ rest) ≡ ys ++ z ∷ []
part_front [] z rest = refl
part_front (y ∷ ys) z rest = ap (λ (l : List ℕ). y ∷ l) (part_front ys z rest)

part_behind : (ys : List ℕ) (z : ℕ) (rest : List ℕ) → drop (suc (length ys)) (ys ++ z ∷ rest) ≡ rest
part_behind [] z rest = refl
part_behind (y ∷ ys) z rest = part_behind ys z rest

-- z comes to the front of ys, and x is written over it
led_over : (x : ℕ) (ys : List ℕ) (z : ℕ) (rest : List ℕ)
    → set (put_mid 0 (suc (length ys)) (ys ++ z ∷ rest) (led (mid_of 0 (suc (length ys)) (ys ++ z ∷ rest)))) 0 x ≡ x ∷ (ys ++ rest)
led_over x ys z rest =
    let last : length (ys ++ z ∷ []) - 1 ≡ length ys = omega (arith, length-append ys (z ∷ [])) in
    rw (part_front ys z rest, part_behind ys z rest, last, drop-append_seam ys (z ∷ []), take-append_seam ys (z ∷ [])) refl

-- x goes in at its slot, and the slot behind ys is taken up
goes_in : {x : ℕ} {ys zs : List ℕ} {at : ℕ} → Placed x ys at zs → (k z : ℕ) (rest : List ℕ) → k + at ≡ suc (length ys)
    → set (put_mid at k (ys ++ z ∷ rest) (led (mid_of at k (ys ++ z ∷ rest)))) at x ≡ zs ++ rest
goes_in {x} last k z rest e = let n : k ≡ 1 = omega arith in rw n refl
goes_in {x} (here {y = y} {ys = ys} l) k z rest e = let n : k ≡ suc (suc (length ys)) = omega arith in rw n (led_over x (y ∷ ys) z rest)
goes_in (past {y = y} l p) k z rest e = ap (λ (l : List ℕ). y ∷ l) (goes_in p k z rest (omega arith))

module _ {xs : List ℕ} {at x : ℕ} (r : Insertable xs at x) where
  stands : Placed x (standing xs) at (insert_edge x (standing xs))
  stands = rw r.place (placed x (standing xs))

  pub insert_free : at + length (standing (mid_of at (length xs - at) xs)) ≡ length (standing xs)
  insert_free = first_free xs at (placed_most stands)

  pub insert_most : at < length xs
  insert_most = omega (arith, insert_free, r.room)

  pub insert_within : at + length (standing (mid_of at (length xs - at) xs)) < length xs
  insert_within = omega (arith, insert_free, r.room)

  pub ruleset insert_bounds = (insert_most, insert_within)

  pub insert_rotated : (k : ℕ) {ys : List ℕ} → ys ≡ led (mid_of at k xs) → k + at ≡ suc (length (standing xs))
      → set (put_mid at k xs ys) at x ≡ filled (length xs) (insert_edge x (standing xs))
  insert_rotated k e turned =
      let zs : List ℕ = insert_edge x (standing xs) in
      let slots : length xs - length (standing xs) ≡ suc (length xs - length zs) = omega (arith, r.room, length_insert x (standing xs)) in
      let cells : xs ≡ standing xs ++ 0 ∷ replicate (length xs - length zs) 0 = r.zeros ∙ ap (λ (m : ℕ). standing xs ++ replicate m 0) slots in
      rw e (subst (λ (l : List ℕ). set (put_mid at k l (led (mid_of at k l))) at x ≡ filled (length xs) zs) (sym cells) (goes_in stands k 0 (replicate (length xs - length zs) 0) turned))

-- ---- the removal

-- the number at a slot of ys is zeroed, and comes behind the others
goes_out : (ys : List ℕ) (at k : ℕ) (rest : List ℕ) → at < length ys → k + at ≡ length ys
    → put_mid at k (set (ys ++ rest) at 0) (tailed (mid_of at k (set (ys ++ rest) at 0))) ≡ remove ys at ++ 0 ∷ rest
goes_out [] at k rest h e = absurd (not-suc-le-zero h)
goes_out (y ∷ ys) zero k rest h e =
    let n : k ≡ suc (length ys) = omega arith in
    rw (n, take-append_seam ys rest, drop-append_seam ys rest) (append_snoc ys 0 rest)
goes_out (y ∷ ys) (suc at) k rest h e = ap (λ (l : List ℕ). y ∷ l) (goes_out ys at k rest (le_of_suc-le-suc h) (omega arith))

zeros_more : (l : List ℕ) (m n : ℕ) → (l ++ replicate m 0) ++ replicate n 0 ≡ l ++ replicate (m + n) 0
zeros_more l m n = append_assoc l (replicate m 0) (replicate n 0) ∙ ap (λ (s : List ℕ). l ++ s) (replicate-append-replicate m n 0)

module _ {x : ℕ} where
  removed_at : {ys zs ws : List ℕ} {k : ℕ} → Placed x ys k ws → Removed x ys zs → k < length ys → get_or ys k 0 ≡ x → remove ys k ≡ zs
  removed_at last q u t = absurd (not-suc-le-zero u)
  removed_at (here l) (first e) u t = refl
  removed_at (here l) (later d q) u t = absurd (d t)
  removed_at (past l p) (first e) u t = absurd (omega arith)
  removed_at (past {y = y} l p) (later d q) u t = ap (λ (z : List ℕ). y ∷ z) (removed_at p q (le_of_suc-le-suc u) t)

module _ {xs : List ℕ} {at : ℕ} (r : Removable xs at) where
  abbrev x : ℕ
  x = get_or xs at 0

  within : length (standing xs) ≤ length xs
  within = filled_within (standing xs) r.zeros

  there : get_or (standing xs) at 0 ≡ x
  there = rw (filled_front (standing xs) r.zeros) at (get_or-take (length (standing xs)) xs at 0 r.inside)

  stood : Placed x (standing xs) at (insert_edge x (standing xs))
  stood = subst (λ (k : ℕ). Placed x (standing xs) k (insert_edge x (standing xs))) (sym r.place) (placed x (standing xs))

  taken : remove (standing xs) at ≡ remove_edge x (standing xs)
  taken = removed_at stood (removed x (standing xs)) r.inside there

  pub remove_free : at + length (standing (mid_of at (length xs - at) xs)) ≡ length (standing xs)
  remove_free = first_free xs at (omega (arith, r.inside))

  pub remove_most : at + length (standing (mid_of at (length xs - at) xs)) ≤ length xs
  remove_most = omega (arith, remove_free, within)

  pub remove_within : at + length (standing (mid_of at (length xs - at) xs)) ≤ length (set xs at 0)
  remove_within = omega (arith, remove_most, length-set xs at 0)

  pub remove_some : 0 < length (standing (mid_of at (length xs - at) xs))
  remove_some = omega (arith, remove_free, r.inside)

  pub ruleset remove_bounds = (remove_most, remove_within, remove_some)

  -- the turned part may reach beyond the slots of edges: what is there is zero
  pub remove_rotated : (k : ℕ) {ys : List ℕ} → ys ≡ tailed (mid_of at k (set xs at 0)) → length (standing xs) ≤ at + k → at + k ≤ length xs
      → put_mid at k (set xs at 0) ys ≡ filled (length xs) (remove_edge x (standing xs))
  remove_rotated k e least most =
      let more : ℕ = at + k - length (standing xs) in
      let rest : ℕ = length xs - (at + k) in
      let part : List ℕ = standing xs ++ replicate more 0 in
      let long : length part ≡ at + k = omega (arith, least, length-append (standing xs) (replicate more 0), length-replicate {A = ℕ} more 0) in
      let free : length xs - length (standing xs) ≡ more + rest = omega (arith, least, most) in
      let cells : xs ≡ part ++ replicate rest 0 =
      r.zeros ∙ ap (λ (m : ℕ). standing xs ++ replicate m 0) free ∙ sym (zeros_more (standing xs) more rest) in
      let out : put_mid at k (set xs at 0) (tailed (mid_of at k (set xs at 0))) ≡ remove part at ++ replicate (suc rest) 0 =
      subst (λ (l : List ℕ). put_mid at k (set l at 0) (tailed (mid_of at k (set l at 0))) ≡ remove part at ++ replicate (suc rest) 0) (sym cells)
      (goes_out part at k (replicate rest 0) (omega (arith, long, least, r.inside)) (omega (arith, long))) in
      let left : length xs - length (remove_edge x (standing xs)) ≡ more + suc rest =
      omega (arith, free, within, r.inside, ap length taken, length-remove (standing xs) at r.inside) in
      rw (e, left) (out ∙ ap (λ (l : List ℕ). l ++ replicate (suc rest) 0) (remove-append_left (standing xs) (replicate more 0) at r.inside ∙ ap (λ (l : List ℕ). l ++ replicate more 0) taken)
      ∙ zeros_more (remove_edge x (standing xs)) more (suc rest))
