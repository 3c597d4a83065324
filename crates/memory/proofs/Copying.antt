-- The loops that copy memory, and put what a function makes of each number, for both widths.
use mathlib.Core.Path.{◌≡◌, sym, ◌∙◌}
use mathlib.Core.List.{List, map, ◌++◌}
use Prim.Native.Nat.{ℕ, ◌+◌, ◌-◌, ◌^◌, ◌≤◌, ◌<◌}
use native.Mathlib.Omega.{arith}
use lib.ListN.{length, get_or, take, drop, set, length-append, length-drop, length-map}
use lib.Seq.{get_or-take, get_or-drop, get_or-append-add, length-take-le}
use Rattle.model.proofs.Lists.{get_d_in, get_d_map}
use Rattle.memory.specs.Widths.{Narrow}
use Rattle.memory.proofs.Mix.{Mixed, front_none, front_turn, front_end}

-- the numbers l go to the front of s
module _ (l s : List ℕ) (room : length l ≤ length s) where
  abbrev pub copied : List ℕ
  copied = l ++ drop (length l) s

  pub copy_start : Mixed copied s s 0
  copy_start = front_none (simp (length-append, length-drop) (omega arith))

  module _ {cur : List ℕ} {i : ℕ} (m : Mixed copied s cur i) where
    pub copy_end : length l ≤ i → cur ≡ copied
    copy_end h = front_end m (λ k u _. sym (behind k (omega arith)))
      where
        behind : (k : ℕ) → length l ≤ k → get_or copied k 0 ≡ get_or s k 0
        behind k u =
            let e : length l + (k - length l) ≡ k = omega arith in
            rw e at (get_or-append-add l (drop (length l) s) (k - length l) 0 ∙ get_or-drop (length l) s (k - length l) 0)

-- the numbers at the front of s go to l
module _ (l s : List ℕ) (room : length l ≤ length s) where
  pub narrow_start : Mixed (take (length l) s) l l 0
  narrow_start = front_none (length-take-le (length l) s room)

  pub narrow_turn : {cur : List ℕ} {i : ℕ} → Mixed (take (length l) s) l cur i → i < length cur
      → Mixed (take (length l) s) l (set cur i (get_or s i 0)) (i + 1)
  narrow_turn {i = i} m h = front_turn m h (sym (get_or-take (length l) s i 0 (omega arith)))

  pub narrow_fits : Narrow (take (length l) s) → (i : ℕ) → i < length l → get_or s i 0 < 2 ^ 32
  narrow_fits f i h =
      let inside : i < length (take (length l) s) = omega (arith, length-take-le (length l) s room) in
      f (get_or s i 0) (rw (get_or-take (length l) s i 0 h) at (get_d_in (take (length l) s) i inside))

-- f x is put for each x
pub map_start : (f : ℕ → ℕ) (l : List ℕ) {to : List ℕ} → length l ≡ length to → Mixed (map f l) to to 0
map_start f l e = front_none (length-map l f ∙ e)

pub map_turn : (f : ℕ → ℕ) (l : List ℕ) {to cur : List ℕ} {i v : ℕ} → Mixed (map f l) to cur i → i < length l → v ≡ f (get_or l i 0)
    → Mixed (map f l) to (set cur i v) (i + 1)
map_turn f l {i = i} m h e = front_turn m (omega (arith, m.same, m.size, length-map l f)) (e ∙ sym (get_d_map f l i h))
