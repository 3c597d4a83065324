-- What the run of edges at key leads to is what `Leads` says; and the queue's states lead on, one after another.
use mathlib.Core.Path.{◌≡◌, sym, subst, ap, ◌∙◌}
use mathlib.Core.List.Memᴰ
use mathlib.Core.List.{List}
use mathlib.Core.Logic.{◌⊎◌, inl, inr, ⊎_elim}
use Prim.Native.Nat.{ℕ, suc, ◌+◌, ◌*◌, ◌%◌, ◌≤◌, ◌<◌}
use native.Mathlib.Nat.{mod-lt, mod_self}
use native.Mathlib.Numerals.{add-one}
use native.Mathlib.Omega.{arith}
use native.Mathlib.Decide.{dec_lt}
use lib.ListN.{length, get_or}
use Rattle.model.specs.Limits.{most_vertices, label_unit}
use Rattle.model.specs.Lists.{Rising}
use Rattle.model.specs.States.{Leads, vertex_of, used_of}
use Rattle.model.proofs.Lists.{get_d_in, in_get_d}
use Rattle.frontier.specs.Work.{Grown, LedTo, queue}
use Rattle.frontier.specs.Search.{Short, key_of, base_of}
use Rattle.frontier.proofs.Grow.{grown_none, grown_then, grown_as}
use Rattle.frontier.proofs.Spreading.{Ahead, rest, run_all}

-- after the last of n places comes the first
pub after_last : (k n : ℕ) → k < n → n ≤ k + 1 → (k + 1) % n ≡ 0
after_last k n h b = let e : k + 1 ≡ n = omega arith in rw e (mod_self n)

module _ (edges l : List ℕ) (x y : ℕ) where
  pub ahead_leads : Ahead edges (length edges) (key_of l x) (base_of l x) y → Leads edges l x y
  ahead_leads a = record { next = position; stands = Memᴰ.cast number (get_d_in edges a.j a.early) }
    where
      number : key_of l x + vertex_of y ≡ get_or edges a.j 0
      number = omega (arith, a.is, a.least, a.most)

      position : used_of y ≡ suc (used_of x) % length l
      position =
          let e : used_of y ≡ (used_of x + 1) % length l = omega (arith, a.is, a.least, a.most) in
          e ∙ ap (λ (n : ℕ). n % length l) (add-one (used_of x))

  pub leads_ahead : Leads edges l x y → Ahead edges (length edges) (key_of l x) (base_of l x) y
  leads_ahead h =
      let i = in_get_d h.stands in
      let position : used_of y ≡ (used_of x + 1) % length l = h.next ∙ ap (λ (n : ℕ). n % length l) (sym (add-one (used_of x))) in
      record { j = i.i; early = i.inside; least = omega (arith, i.is); most = omega (arith, i.is); is = omega (arith, i.is) }

  -- a state that is led to has its position in the pattern
  pub leads_fit : Short l → Leads edges l x y → y < length l * most_vertices
  leads_fit s h = let p : used_of y ≡ suc (used_of x) % length l = h.next in omega (arith, mod-lt (suc (used_of x)) {m = length l} s.least)

-- a branch is over, so all that the state leads to is reached
pub branch_all : {edges l : List ℕ} {x key base n i : ℕ} → Rising edges → key ≡ key_of l x → base ≡ base_of l x → n ≤ length edges → i ≤ length (rest edges n)
    → (i < length (rest edges n) → key + label_unit ≤ get_or (rest edges n) i 0)
    → {w w' : List ℕ} {t t' : ℕ} → Grown w t w' t' (Ahead edges (n + i) key base) → Grown w t w' t' (Leads edges l x)
branch_all {edges} {l} {x} {key} {base} {n} s k b h i e g =
    grown_as (rw (k, b) at (run_all edges key base n s h i e g)) (ahead_leads edges l x) (leads_ahead edges l x)

module _ (edges l : List ℕ) (lo : ℕ) where
  pub next_none : (w₀ w : List ℕ) (n : ℕ) → Grown w n w n (LedTo edges l w₀ lo lo)
  next_none w₀ w n = grown_as (grown_none w n) (λ y e. absurd e) (λ y a. omega (arith, a.from, a.to))

  pub next_more : {w₀ w w₁ w₂ : List ℕ} {n n₁ n₂ k : ℕ} → lo ≤ k → Grown w n w₁ n₁ (LedTo edges l w₀ lo k)
      → Grown w₁ n₁ w₂ n₂ (Leads edges l (queue w₀ k)) → Grown w n w₂ n₂ (LedTo edges l w₀ lo (k + 1))
  next_more {w₀} {k = k} h g g' = grown_as (grown_then g g') into back
    where
      into : (y : ℕ) → LedTo edges l w₀ lo k y ⊎ Leads edges l (queue w₀ k) y → LedTo edges l w₀ lo (k + 1) y
      into y p = ⊎_elim (λ a. record { k = a.k; from = a.from; to = omega (arith, a.to); led = a.led }) (λ e. record { k = k; from = h; to = omega arith; led = e }) p

      back : (y : ℕ) → LedTo edges l w₀ lo (k + 1) y → LedTo edges l w₀ lo k y ⊎ Leads edges l (queue w₀ k) y
      back y a = elim (dec_lt a.k k) [
        | yes b ↦ inl (record { k = a.k; from = a.from; to = b; led = a.led })
        | no b ↦ inr (subst (λ (j : ℕ). Leads edges l (queue w₀ j) y) (same b) a.led)
      ]
        where
          same : ¬ (a.k < k) → a.k ≡ k
          same b = omega (arith, a.to)
