-- The states that a run of edges leads to, from none of the edges to all of them.
use mathlib.Core.Path.{◌≡◌, ap}
use mathlib.Core.List.{List}
use mathlib.Core.Logic.{◌⊎◌, inl, inr, ⊎_elim}
use Prim.Native.Nat.{ℕ, ◌+◌, ◌-◌, ◌≤◌, ◌<◌}
use native.Mathlib.Omega.{arith}
use native.Mathlib.Decide.{dec_lt}
use lib.ListN.{length, get_or, take, drop}
use Rattle.std.proofs.lemmas.List.{take_rest, get_or-drop, length-drop}
use Rattle.model.specs.Limits.{label_unit}
use Rattle.model.specs.Lists.{Rising}
use Rattle.model.proofs.Lists.{rising_le}
use Rattle.edges.specs.Slots.{Under, Skipped}
use Rattle.edges.proofs.Slots.{skipped_least}
use Rattle.frontier.specs.Work.{Grown}
use Rattle.frontier.proofs.Grow.{grown_none, grown_then, grown_as}

-- y is base + to for an edge key + to among the first i, to below 256
pub record Ahead (edges : List ℕ) (i key base y : ℕ) : Type 0 where
  pub j : ℕ
  pub early : j < i
  pub least : key ≤ get_or edges j 0
  pub most : get_or edges j 0 < key + label_unit
  pub is : y + key ≡ base + get_or edges j 0

-- the edges from slot n on, as the part of the slice that they are
abbrev pub rest : List ℕ → ℕ → List ℕ
rest edges n = take (length edges - n) (drop n edges)

pub rest_at : (edges : List ℕ) (n i : ℕ) → get_or (rest edges n) i 0 ≡ get_or edges (n + i) 0
rest_at edges n i = rw (take_rest edges n) (get_or-drop n edges i 0)

pub rest_long : (edges : List ℕ) (n : ℕ) → length (rest edges n) ≡ length edges - n
rest_long edges n = rw (take_rest edges n) (length-drop n edges)

-- from the first edge on that is at least key, each one is
pub rest_least : {edges : List ℕ} {key n : ℕ} → Rising edges → Skipped edges key n → (i : ℕ) → i < length (rest edges n) → key ≤ get_or (rest edges n) i 0
rest_least {edges} {n = n} s k i h =
    rw (rest_at edges n i) (skipped_least s k (n + i) (omega arith) (omega (arith, rest_long edges n)))

module _ (edges : List ℕ) (key base n : ℕ) where
  pub run_none : Under edges key n → (w : List ℕ) (t : ℕ) → Grown w t w t (Ahead edges (n + 0) key base)
  run_none b w t = grown_as (grown_none w t) (λ y e. absurd e) (λ y a. omega (arith, b.below a.j (omega (arith, a.early)), a.least))

  wider : {i i' : ℕ} → i ≤ i' → (y : ℕ) → Ahead edges i key base y → Ahead edges i' key base y
  wider h y a = record { j = a.j; early = omega (arith, a.early); least = a.least; most = a.most; is = a.is }

  -- the edge at index i of them leads to the state z
  module _ (i : ℕ) {z : ℕ} (least : key ≤ get_or (rest edges n) i 0) (most : get_or (rest edges n) i 0 < key + label_unit) (is : z + key ≡ base + get_or (rest edges n) i 0) where
    split : (y : ℕ) → Ahead edges (n + (i + 1)) key base y → Ahead edges (n + i) key base y ⊎ (y ≡ z)
    split y a = elim (dec_lt a.j (n + i)) [
      | yes b ↦ inl (record { j = a.j; early = b; least = a.least; most = a.most; is = a.is })
      | no b ↦ inr (omega (arith, a.is, is, rest_at edges n i, ap (λ (k : ℕ). get_or edges k 0) (same b)))
    ]
      where
        same : ¬ (a.j < n + i) → a.j ≡ n + i
        same b = omega (arith, a.early)

    here : (y : ℕ) → y ≡ z → Ahead edges (n + (i + 1)) key base y
    here y q =
        let e = rest_at edges n i in
        record { j = n + i; early = omega arith; least = omega (arith, least); most = omega (arith, most); is = omega (arith, is) }

    pub run_more : {w w₁ w₂ : List ℕ} {t t₁ t₂ : ℕ} → Grown w t w₁ t₁ (Ahead edges (n + i) key base) → Grown w₁ t₁ w₂ t₂ (λ y. y ≡ z)
        → Grown w t w₂ t₂ (Ahead edges (n + (i + 1)) key base)
    run_more g r = grown_as (grown_then g r) (λ y p. ⊎_elim (λ a. wider (omega arith) y a) (here y) p) split

  -- no edge after the run leads on
  pub run_all : {w w' : List ℕ} {t t' i : ℕ} → Rising edges → n ≤ length edges → i ≤ length (rest edges n)
      → (i < length (rest edges n) → key + label_unit ≤ get_or (rest edges n) i 0)
      → Grown w t w' t' (Ahead edges (n + i) key base) → Grown w t w' t' (Ahead edges (length edges) key base)
  run_all {i = i} s b h e g = grown_as g (wider (omega (arith, rest_long edges n))) back
    where
      back : (y : ℕ) → Ahead edges (length edges) key base y → Ahead edges (n + i) key base y
      back y a = elim (dec_lt a.j (n + i)) [
        | yes l ↦ record { j = a.j; early = l; least = a.least; most = a.most; is = a.is }
        | no l ↦ absurd (omega (arith, rising_le s (n + i) a.j (omega arith) a.early, a.most, rest_at edges n i, e (omega (arith, rest_long edges n, a.early))))
      ]
