-- The loop of checks 3 and 12: memory of rising numbers that pass a test, then zeros, slot by slot. What is found is a number of slots, or
-- that this is no such memory.
use mathlib.Core.Path.{◌≡◌, ap, ◌∙◌, sym}
use mathlib.Core.Bool.{Bool, true, false, cond}
use mathlib.Core.List.{List}
use Prim.Native.Nat.{ℕ, ◌+◌, ◌-◌, ◌≤◌, ◌<◌}
use native.Mathlib.Numerals.{add-one}
use native.Mathlib.Nat.{add-zero, suc-add, add-suc}
use native.Mathlib.Decide.{ℕ_discrete, dec_lt}
use native.Mathlib.Omega.{arith}
use lib.ListN.{length, get_or, drop, take, drop_of_length-le}
use lib.Seq.{drop-cons}
use borrow.Author.Tests.{eq-eqb, ne_eqb, lt-ltb, le-ltb}
use Rattle.model.specs.Edges.{standing}
use Rattle.model.specs.Computed.Edges.{zeros?, rising?}
use Rattle.model.proofs.Lists.{part_all}

module _ {A : Type 0} (found : ℕ → A) (invalid : A) where
  module _ (f : ℕ → Bool) where
    -- what is found if i numbers stand before s, the last of them prev
    abbrev pub checked_from : ℕ → ℕ → List ℕ → A
    checked_from prev i s = cond (rising? f prev s) (found (i + length (standing s))) invalid

    module _ (prev : ℕ) (s : List ℕ) (i : ℕ) where
      -- no slot is left
      pub checked_end : length s ≤ i → checked_from prev i (drop i s) ≡ found i
      unfolding standing
      checked_end h = rw (drop_of_length-le s h, add-zero)

      -- nothing rises from slot i on, which may be the end
      pub checked_rest : get_or s i 0 ≤ prev → checked_from prev i (drop i s) ≡ cond (zeros? (drop i s)) (found i) invalid
      unfolding standing zeros?
      checked_rest l = elim (dec_lt i (length s)) [
        | yes h ↦ elim (ℕ_discrete (get_or s i 0) 0) [
          | yes e ↦ rw (drop-cons s i 0, eq-eqb (get_or s i 0) 0 e, add-zero)
          | no n ↦ rw (drop-cons s i 0, ne_eqb (get_or s i 0) 0 n, le-ltb prev (get_or s i 0) l)
        ]
        | no h ↦ let k : length s ≤ i = omega arith in rw (drop_of_length-le s k, add-zero)
      ]

      -- one more rises
      pub checked_next : i < length s → prev < get_or s i 0 → (b : Bool) → f (get_or s i 0) ≡ b
          → checked_from prev i (drop i s) ≡ cond b (checked_from (get_or s i 0) (i + 1) (drop (i + 1) s)) invalid
      unfolding standing
      checked_next h l true q = rw (add-one, drop-cons s i 0, ne_eqb (get_or s i 0) 0 (λ e. omega arith), lt-ltb prev (get_or s i 0) l, q, suc-add, add-suc)
      checked_next h l false q = rw (drop-cons s i 0, ne_eqb (get_or s i 0) 0 (λ e. omega arith), lt-ltb prev (get_or s i 0) l, q)

  -- b is what a test of `&s[i..]` for zeros returns
  pub checked_zeros : (s : List ℕ) (i : ℕ) (b : Bool) → zeros? (take (length s - i) (drop i s)) ≡ b
      → cond (zeros? (drop i s)) (found i) invalid ≡ cond b (found i) invalid
  checked_zeros s i b q = ap (λ (t : Bool). cond t (found i) invalid) (ap zeros? (sym (part_all s i)) ∙ q)
