-- A part of the index, the entries from low on, below high: the slots from one lower bound to the other.
use Rattle.std.proofs.lemmas.List.{take-append-drop}
use mathlib.Core.Path.{◌≡◌, sym, ◌∙◌}
use mathlib.Core.List.Memᴰ
use mathlib.Core.List.{List, [], ◌∷◌, ◌++◌}
use Prim.Native.Nat.{ℕ, ◌+◌, ◌-◌, ◌≤◌, ◌<◌}
use native.Mathlib.Decide.{dec_le}
use native.Mathlib.Omega.{arith}
use lib.ListN.{length, get_or, take, drop, length-drop}
use lib.Seq.{length-take-le, get_or-take, get_or-drop}
use Rattle.model.specs.Lists.{◌∈◌, none, next, Rising}
use Rattle.model.specs.Computed.Lists.{Bracket}
use Rattle.model.proofs.Lists.{get_d_in, in_get_d, sorted_back}
use Rattle.answer.specs.Parts.{Belongs, Part}

rising_front : (l m : List ℕ) → Rising (l ++ m) → Rising l
rising_front [] m s = none
rising_front (x ∷ l) m (next h s) = next (λ z k. h z (Memᴰ.append_left m k)) (rising_front l m s)

rising_part : (i n : ℕ) (l : List ℕ) → Rising l → Rising (take n (drop i l))
rising_part i n l s =
    let behind = sorted_back (take i l) (rw (← take-append-drop i l) at s) in
    rising_front (take n (drop i l)) (drop n (drop i l)) (rw (← take-append-drop n (drop i l)) at behind)

module _ {index : List ℕ} {low high a b : ℕ} (from : Bracket index low a a) (to : Bracket index high b b) where
  part_length : length (take (b - a) (drop a index)) ≡ b - a
  part_length = length-take-le (b - a) (drop a index) (omega (arith, length-drop a index, to.most))

  part_at : (p : ℕ) → p < b - a → get_or (take (b - a) (drop a index)) p 0 ≡ get_or index (a + p) 0
  part_at p h = get_or-take (b - a) (drop a index) p 0 h ∙ get_or-drop a index p 0

  slot : (i : ℕ) → a ≤ i → i < b → Belongs index low high (get_or index i 0)
  slot i h k = record { stands = get_d_in index i (omega (arith, to.most)); from = from.above i h (omega (arith, to.most)); to = to.under i k }

  each : (x : ℕ) → x ∈ take (b - a) (drop a index) → Belongs index low high x
  each x m =
      let at = in_get_d m in
      let k : at.i < b - a = omega (arith, part_length, at.inside) in
      rw (sym (part_at at.i k) ∙ at.is) at (slot (a + at.i) (omega arith) (omega arith))

  all : (x : ℕ) → Belongs index low high x → x ∈ take (b - a) (drop a index)
  all x o =
      let at = in_get_d o.stands in
      let h : a ≤ at.i = elim (dec_le a at.i) [ yes h ↦ h | no n ↦ absurd (omega (arith, from.under at.i (omega arith), at.is, o.from)) ] in
      let k : at.i < b = elim (dec_le b at.i) [ yes l ↦ absurd (omega (arith, to.above at.i l at.inside, at.is, o.to)) | no n ↦ omega arith ] in
      let e : a + (at.i - a) ≡ at.i = omega arith in
      let is : get_or (take (b - a) (drop a index)) (at.i - a) 0 ≡ x = part_at (at.i - a) (omega arith) ∙ rw e at.is in
      rw is at (get_d_in (take (b - a) (drop a index)) (at.i - a) (omega (arith, part_length)))

  pub part_between : Rising index → Part index low high (take (b - a) (drop a index))
  part_between r = record { rises = rising_part a (b - a) index r; each = each; all = all }
