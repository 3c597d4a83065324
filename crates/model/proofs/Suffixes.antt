-- Patterns parted by their suffixes: what holds of patterns with one label before a word, and of those with more.
use mathlib.Core.Path.{◌≡◌, refl, sym, ap, subst, ◌∙◌}
use mathlib.Core.Logic.{◌⊎◌, inl, inr, ⊎_elim, ◌↔◌}
use mathlib.Core.List.Memᴰ
use mathlib.Core.List.{List, [], ◌∷◌, ◌++◌, append_assoc}
use Prim.Native.Nat.{ℕ, zero, suc, ◌+◌, ◌≤◌}
use native.Mathlib.Nat.{not-suc-le-zero}
use native.Mathlib.Decide.{dec_lt}
use native.Mathlib.Omega.{arith}
use lib.ListN.{length, get_or, length-append}
use lib.Seq.{get_or-append_seam}
use Rattle.model.specs.Limits.{most_label}
use Rattle.model.specs.Patterns.{Pattern}
use Rattle.model.specs.Build.Suffixes.{With, Beyond, Leaf, Branch, Some}

pub some_none : {G : ℕ → ℕ → Type 0} (e : ℕ) → Some 0 G e → ⊥
some_none e s = omega (arith, s.small)

pub some_up : {G : ℕ → ℕ → Type 0} {m n e : ℕ} → m ≤ n → Some m G e → Some n G e
some_up h s = record { which = s.which; small = omega (arith, s.small); holds = s.holds }

pub some_more : {G : ℕ → ℕ → Type 0} (n e : ℕ) → (Some n G e ⊎ G n e) ↔ Some (n + 1) G e
some_more {G} n e = (
  λ s. ⊎_elim (some_up (omega arith)) (λ b. record { which = n; small = omega arith; holds = b }) s,
  λ s. elim (dec_lt s.which n) [
    | yes h ↦ inl (record { which = s.which; small = h; holds = s.holds })
    | no h ↦ let q : s.which ≡ n = omega (arith, s.small) in inr (subst (λ (c : ℕ). G c e) q s.holds)
  ],
)

-- a list is empty, or ends in a label
data Ends : List ℕ → Type 0 where
  empty : Ends []
  last : (v : List ℕ) (c : ℕ) → Ends (v ++ (c ∷ []))

ends : (l : List ℕ) → Ends l
ends [] = empty
ends (x ∷ l) = go (ends l)
  where
    go : {m : List ℕ} → Ends m → Ends (x ∷ m)
    go empty = last [] x
    go (last v c) = last (x ∷ v) c

-- a label of a pattern is one
labelled : {k : ℕ} (v : List ℕ) (c : ℕ) (w : List ℕ) → Pattern k (v ++ (c ∷ w)) → (1 ≤ c) × (c ≤ most_label)
labelled v c w p = p.keyed.labels c (Memᴰ.append_right v (Memᴰ.head refl))

module _ {k : ℕ} {F : List ℕ → ℕ → Type 0} where
  pub beyond_parts : (w : List ℕ) (e : ℕ) → (Some most_label (Leaf k F w) e ⊎ Some most_label (Branch k F w) e) ↔ Beyond k F w e
  beyond_parts w e = (back, λ b. there (ends b.front) b.label b.within)
    where
      there : {v : List ℕ} → Ends v → (c : ℕ) → With k F (v ++ (c ∷ w)) e → Some most_label (Leaf k F w) e ⊎ Some most_label (Branch k F w) e
      there empty zero p = absurd (omega (arith, labelled [] 0 w p.pattern))
      there empty (suc c) p = inl (record { which = c; small = omega (arith, labelled [] (suc c) w p.pattern); holds = p })
      there (last v d) zero p = absurd (omega (arith, labelled (v ++ (d ∷ [])) 0 w p.pattern))
      there (last v d) (suc c) p = inr (record {
        which = c;
        small = omega (arith, labelled (v ++ (d ∷ [])) (suc c) w p.pattern);
        holds = record { front = v; label = d; within = rw (append_assoc v (d ∷ []) (suc c ∷ w)) at p };
      })

      back : Some most_label (Leaf k F w) e ⊎ Some most_label (Branch k F w) e → Beyond k F w e
      back (inl s) = record { front = []; label = suc s.which; within = s.holds }
      back (inr s) = record {
        front = s.holds.front ++ (s.holds.label ∷ []);
        label = suc s.which;
        within = rw (append_assoc s.holds.front (s.holds.label ∷ []) (suc s.which ∷ w)) s.holds.within;
      }

  -- every pattern has one label or more before the empty word
  pub all_beyond : (e : ℕ) → ((l : List ℕ) × With k F l e) ↔ Beyond k F [] e
  all_beyond e = (λ (l, p). there (ends l) p, λ b. (b.front ++ (b.label ∷ []), b.within))
    where
      there : {l : List ℕ} → Ends l → With k F l e → Beyond k F [] e
      there empty p = absurd (not-suc-le-zero p.pattern.keyed.long)
      there (last v c) p = record { front = v; label = c; within = p }

  -- a word that is no shorter than k has nothing before it
  pub beyond_long : (w : List ℕ) (e : ℕ) → k ≤ length w → ¬ Beyond k F w e
  beyond_long w e h b = omega (arith, b.within.pattern.keyed.short, length-append b.front (b.label ∷ w))

  -- if F fails of every pattern with this suffix, nothing is beyond it
  pub beyond_none : (w : List ℕ) → ((v : List ℕ) (e : ℕ) → ¬ F (v ++ w) e) → (e : ℕ) → ¬ Beyond k F w e
  beyond_none w n e b = n (b.front ++ (b.label ∷ [])) e (rw (append_assoc b.front (b.label ∷ []) w) b.within.holds)

-- ---- the parts have nothing in common if F holds of one pattern at most

same_length : (a b : List ℕ) (x y : ℕ) (w : List ℕ) → a ++ (x ∷ w) ≡ b ++ (y ∷ w) → length a ≡ length b
same_length a b x y w e = omega (arith, ap length e, length-append a (x ∷ w), length-append b (y ∷ w))

-- the label before a suffix is one
before_same : (a b : List ℕ) (x y : ℕ) (w : List ℕ) → a ++ (x ∷ w) ≡ b ++ (y ∷ w) → x ≡ y
before_same a b x y w e =
    sym (get_or-append_seam a x w 0) ∙ ap (λ (l : List ℕ). get_or l (length a) 0) e
    ∙ ap (λ (n : ℕ). get_or (b ++ (y ∷ w)) n 0) (same_length a b x y w e) ∙ get_or-append_seam b y w 0

module _ {k : ℕ} {F : List ℕ → ℕ → Type 0} (one : (l m : List ℕ) (e : ℕ) → With k F l e → With k F m e → l ≡ m) (w : List ℕ) where
  pub leaves_apart : (n e : ℕ) → Some n (Leaf k F w) e → Leaf k F w n e → ⊥
  leaves_apart n e s p = omega (arith, s.small, before_same [] [] (suc s.which) (suc n) w (one _ _ e s.holds p))

  pub branches_apart : (n e : ℕ) → Some n (Branch k F w) e → Branch k F w n e → ⊥
  branches_apart n e s p =
      let a = s.holds in
      omega (
        arith,
        s.small,
        before_same (a.front ++ (a.label ∷ [])) (p.front ++ (p.label ∷ [])) (suc s.which) (suc n) w
            (append_assoc a.front (a.label ∷ []) (suc s.which ∷ w) ∙ one _ _ e a.within p.within ∙ sym (append_assoc p.front (p.label ∷ []) (suc n ∷ w))),
      )

  pub parts_apart : (n m e : ℕ) → Some n (Leaf k F w) e → Some m (Branch k F w) e → ⊥
  parts_apart n m e s t =
      let b = t.holds in
      omega (arith, ap length (one _ _ e s.holds b.within), length-append b.front (b.label ∷ suc t.which ∷ w))
