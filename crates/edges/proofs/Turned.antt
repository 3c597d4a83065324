-- One number brought from one end of a part to the other: what stands before slot i is as it will be, and from there on as it came.
use mathlib.Core.Path.{◌≡◌, refl, sym, ◌∙◌}
use mathlib.Core.List.{List, [], ◌∷◌, ◌++◌}
use Prim.Native.Nat.{ℕ, zero, suc, ◌+◌, ◌-◌, ◌≤◌, ◌<◌}
use native.Mathlib.Numerals.{add-one}
use native.Mathlib.Omega.{arith}
use lib.ListN.{length, get_or, take, drop, set, length-append, length-drop, length-set, drop_of_length-le, get_or-eq_default}
use lib.Seq.{ext_get_or, drop-cons, length-take-le, get_or-take}
use Rattle.model.proofs.Lists.{get_d_set}
use Rattle.memory.proofs.Mix.{Mixed, front_none, front_turn}

module _ (xs : List ℕ) where
  -- the last number in front, and the first behind
  abbrev pub led : List ℕ
  led = drop (length xs - 1) xs ++ take (length xs - 1) xs

  abbrev pub tailed : List ℕ
  tailed = drop 1 xs ++ take 1 xs

module _ (xs : List ℕ) (h : 0 < length xs) where
  alone : drop (length xs - 1) xs ≡ get_or xs (length xs - 1) 0 ∷ []
  alone =
      drop-cons xs (length xs - 1) 0 (omega (arith, h))
      ∙ rw ((let l : length xs ≤ suc (length xs - 1) = omega (arith, h) in drop_of_length-le xs l)) refl

  led_long : length (led xs) ≡ length xs
  led_long = omega (arith, h, length-append (drop (length xs - 1) xs) (take (length xs - 1) xs), length-drop (length xs - 1) xs, length-take-le (length xs - 1) xs (omega arith))

  -- what is written at slot i: the number before it, and the last one at the first
  led_at : (i : ℕ) → i < length xs → get_or (get_or xs (length xs - 1) 0 ∷ xs) i 0 ≡ get_or (led xs) i 0
  led_at zero k = rw alone refl
  led_at (suc i) k = rw alone (sym (get_or-take (length xs - 1) xs i 0 (omega (arith, k))))

  pub led_none : Mixed (led xs) xs xs 0
  led_none = front_none led_long

  pub led_turn : {cur : List ℕ} {i moved : ℕ} → Mixed (led xs) xs cur i → i < length cur → moved ≡ get_or (get_or xs (length xs - 1) 0 ∷ xs) i 0
      → Mixed (led xs) xs (set cur i moved) (i + 1)
  led_turn {cur} {i} m k e = front_turn m k (e ∙ led_at i (omega (arith, k, m.size)))

  tailed_long : length (tailed xs) ≡ length xs
  tailed_long = omega (arith, h, length-append (drop 1 xs) (take 1 xs), length-drop 1 xs, length-take-le 1 xs (omega (arith, h)))

  pub tailed_none : Mixed xs (tailed xs) xs (length xs)
  tailed_none =
      record {
        same = sym tailed_long;
        size = sym tailed_long;
        front = λ k l. refl;
        back = λ k l. get_or-eq_default xs 0 l ∙ sym (get_or-eq_default (tailed xs) 0 (omega (arith, l, tailed_long)));
      }

  -- what is written at a slot: the number behind it, and the first one at the last
  tailed_at : (ys : List ℕ) (at : ℕ) → 0 < length ys → get_or (ys ++ get_or ys 0 0 ∷ []) (suc at) 0 ≡ get_or (tailed ys) at 0
  tailed_at [] at q = absurd (omega (arith, q))
  tailed_at (y ∷ ys) at q = refl

  pub tailed_turn : {cur : List ℕ} {i moved : ℕ} (at : ℕ) → Mixed xs (tailed xs) cur i → i ≡ at + 1 → at < length cur
      → moved ≡ get_or (xs ++ get_or xs 0 0 ∷ []) i 0 → Mixed xs (tailed xs) (set cur at moved) at
  tailed_turn {cur} {i} {moved} at m p k e =
      let v : moved ≡ get_or (tailed xs) at 0 = (rw (p, add-one) at e) ∙ tailed_at xs at h in
      record {
        same = m.same;
        size = length-set cur at moved ∙ m.size;
        front = λ j l. get_d_set cur at moved j _ k (λ r. absurd (omega (arith, r, l))) (λ d. m.front j (omega (arith, p, l)));
        back = λ j l. get_d_set cur at moved j _ k (λ r. rw r v) (λ d. m.back j (omega (arith, p, l, d)));
      }

  pub tailed_full : {cur : List ℕ} {i : ℕ} → Mixed xs (tailed xs) cur i → i ≤ 0 → cur ≡ tailed xs
  tailed_full {cur} m k = ext_get_or 0 cur (tailed xs) m.size (λ j l. m.back j (omega (arith, k)))
