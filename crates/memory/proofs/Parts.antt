-- A part of memory zeroed, for a caller: what that leaves of the whole.
use mathlib.Core.Path.{◌≡◌, ap, ◌∙◌}
use mathlib.Core.List.{List, ◌++◌}
use Prim.Native.Nat.{ℕ, ◌-◌, ◌≤◌, ◌<◌}
use native.Mathlib.Omega.{arith}
use lib.ListN.{length, get_or, take, drop, replicate, length-drop, length-replicate, get_or-replicate, get_or-append}
use lib.Seq.{take_at, drop_at, length-take-le, length_front}
use Rattle.model.specs.Lists.{filled, zeroed}
use Rattle.model.proofs.Lists.{part_all, part_last}

-- numbers at the front, and zeros behind them
pub zeros_behind : (l s : List ℕ) (n : ℕ) {cur zeros : List ℕ} → length l ≡ n → cur ≡ l ++ drop n s
    → zeros ≡ zeroed (take (length cur - n) (drop n cur)) → take n cur ++ (zeros ++ drop (length cur - n) (drop n cur)) ≡ filled (length s) l
zeros_behind l s n {cur} {zeros} e f z =
    let front : take n cur ≡ l = ap (take n) f ∙ take_at l (drop n s) n e in
    let behind : drop n cur ≡ drop n s = ap (drop n) f ∙ drop_at l (drop n s) n e in
    let size : length (take (length cur - n) (drop n cur)) ≡ length s - length l = ap length (part_all cur n ∙ behind) ∙ length-drop n s ∙ omega arith in
    part_last cur zeros n ∙ ap (λ (m : List ℕ). m ++ zeros) front ∙ ap (λ (m : List ℕ). l ++ m) (z ∙ ap (λ (k : ℕ). replicate k 0) size)

-- zeros at the front
module _ (s : List ℕ) (n : ℕ) {zeros : List ℕ} (room : n ≤ length s) (z : zeros ≡ zeroed (take n s)) where
  pub zeros_front : zeros ≡ replicate n 0
  zeros_front = z ∙ ap (λ (k : ℕ). replicate k 0) (length-take-le n s room)

  pub zeros_long : length (zeros ++ drop n s) ≡ length s
  zeros_long = length_front s zeros n (ap length z ∙ length-replicate (length (take n s)) 0)

  pub zeros_first : (k : ℕ) → k < n → get_or (zeros ++ drop n s) k 0 ≡ 0
  zeros_first k h = rw zeros_front (get_or-append (replicate n 0) (drop n s) 0 k (omega (arith, length-replicate {A = ℕ} n 0)) ∙ get_or-replicate n k 0 0 h)
