-- The ledger's card reader, byte by byte, and the calls' reader, edge by edge, find the same.
use mathlib.Core.Path.{◌≡◌, refl, ap, ◌∙◌}
use mathlib.Core.Logic.{◌⊎◌, inl, inr}
use mathlib.Core.Bool.{not, ◌||◌}
use mathlib.Core.List.{List, [], ◌∷◌, map, Memᴰ}
use Prim.Native.Nat.{ℕ, zero, suc, ◌+◌, ◌-◌, ◌*◌, ◌≤◌, ◌<◌}
use native.Mathlib.Omega.{arith}
use native.Mathlib.Decide.{ℕ_discrete, dec_lt}
use lib.ListN.{length, drop, drop_of_length-le}
use Rattle.model.specs.Limits.{head_bytes}
use Rattle.model.specs.Lists.{from, up_to, any?}
use Rattle.model.proofs.Tests.{Tests, test_map, test_agree, test_and, test_or, test_not, test_dec, test_le, test_lt, test_any}
use Rattle.model.proofs.Lists.{up_to_lem, below}
use Rattle.calls.specs.Card.{edges_of, rising_triples?}
use Rattle.calls.proofs.Card.{drop_three}
use Rattle.demands.specs.Ledger.{byte, edge_count, nth_edge, stray, falls}
use Rattle.demands.proofs.Numbers.{not_not}

module _ (bytes : List ℕ) where
  -- edge a, and the bytes behind it
  edge_here : (a : ℕ) → 9 + 3 * suc a ≤ length bytes
      → drop (9 + 3 * a) bytes ≡ byte bytes (9 + 3 * a) ∷ byte bytes (10 + 3 * a) ∷ byte bytes (11 + 3 * a) ∷ drop (9 + 3 * suc a) bytes
  edge_here a h =
      let p : 10 + 3 * a ≡ 9 + 3 * a + 1 = omega arith in
      let q : 11 + 3 * a ≡ 9 + 3 * a + 2 = omega arith in
      let r : 9 + 3 * suc a ≡ 9 + 3 * a + 3 = omega arith in
      rw (p, q, r) (drop_three bytes (9 + 3 * a) (omega (arith, h)))

  none_left : (a : ℕ) → length bytes ≡ 9 + 3 * (a + 0) → drop (9 + 3 * a) bytes ≡ []
  none_left a e = let h : length bytes ≤ 9 + 3 * a = omega (arith, e) in drop_of_length-le bytes h

  -- the same edges
  pub edges_from : (a n : ℕ) → length bytes ≡ 9 + 3 * (a + n) → edges_of (drop (9 + 3 * a) bytes) ≡ map (nth_edge bytes) (from a n)
  unfolding edges_of from
  edges_from a zero e = rw (none_left a e) refl
  edges_from a (suc n) e = rw (edge_here a (omega (arith, e))) (ap (λ (l : List ℕ). nth_edge bytes a ∷ l) (edges_from (suc a) n (omega (arith, e))))

  module _ (vertices : ℕ) where
    -- the bytes of edge i name an edge of a layout with so many vertices
    abbrev ValidTriple : ℕ → Type 0
    ValidTriple i =
        ((byte bytes (9 + 3 * i) < vertices) × (byte bytes (11 + 3 * i) < vertices))
        × ((1 ≤ byte bytes (10 + 3 * i)) × (byte bytes (10 + 3 * i) ≤ 8))

    -- n edges from edge a on, which rise from above prev: as the calls read them
    abbrev Rises : (prev a n : ℕ) → Type 0
    Rises prev a zero = Unit {0}
    Rises prev a (suc n) = ValidTriple a × ((prev < nth_edge bytes a) × Rises (nth_edge bytes a) (suc a) n)

    test_rises : (prev a n : ℕ) → length bytes ≡ 9 + 3 * (a + n) → Tests (rising_triples? vertices prev (drop (9 + 3 * a) bytes)) (Rises prev a n)
    unfolding rising_triples?
    test_rises prev a zero e = rw (none_left a e) (record { yields = λ _. tt; passes = λ _. tt })
    test_rises prev a (suc n) e =
        rw (edge_here a (omega (arith, e)))
        (test_and
        (test_and (test_and (test_lt (byte bytes (9 + 3 * a)) vertices) (test_lt (byte bytes (11 + 3 * a)) vertices))
        (test_and (test_le 1 (byte bytes (10 + 3 * a))) (test_le (byte bytes (10 + 3 * a)) 8)))
        (test_and (test_lt prev (nth_edge bytes a)) (test_rises (nth_edge bytes a) (suc a) n (omega (arith, e)))))

    -- as the ledger reads them
    record RightBytes (a n : ℕ) : Type 0 where
      edges : (i : ℕ) → a ≤ i → i < a + n → ValidTriple i
      up : (i : ℕ) → a ≤ i → i + 1 < a + n → nth_edge bytes i < nth_edge bytes (i + 1)

    rises_right : (prev a n : ℕ) → Rises prev a n → RightBytes a n
    rises_right prev a zero r = record { edges = λ i h k. absurd (omega (arith, h, k)); up = λ i h k. absurd (omega (arith, h, k)) }
    rises_right prev a (suc n) (l, (p, r)) =
        let more = rises_right (nth_edge bytes a) (suc a) n r in
        record {
          edges = λ i h k. elim (ℕ_discrete i a) [ yes e ↦ rw e l | no d ↦ more.edges i (omega (arith, h, d)) (omega (arith, k)) ];
          up = λ i h k. elim (ℕ_discrete i a) [ yes e ↦ rw e (second n r (omega (arith, k, e))) | no d ↦ more.up i (omega (arith, h, d)) (omega (arith, k)) ];
        }
      where
        second : (n : ℕ) → Rises (nth_edge bytes a) (suc a) n → 1 ≤ n → nth_edge bytes a < nth_edge bytes (a + 1)
        second zero r h = absurd (omega (arith, h))
        second (suc n) (l, (p, r)) h = let e : a + 1 ≡ suc a = omega arith in rw e p

    right_rises : (prev a n : ℕ) → (1 ≤ n → prev < nth_edge bytes a) → RightBytes a n → Rises prev a n
    right_rises prev a zero first r = tt
    right_rises prev a (suc n) first r =
        let e : a + 1 ≡ suc a = omega arith in (
          r.edges a (omega arith) (omega arith),
          (
            first (omega arith),
            right_rises (nth_edge bytes a) (suc a) n (λ h. rw e at (r.up a (omega arith) (omega (arith, h))))
                (record { edges = λ i h k. r.edges i (omega (arith, h)) (omega (arith, k)); up = λ i h k. r.up i (omega (arith, h)) (omega (arith, k)) }),
          ),
        )

  -- the ledger's conditions, turned round
  abbrev v : ℕ
  v = byte bytes 5 + 1

  abbrev n : ℕ
  n = edge_count bytes

  abbrev Off : ℕ → Type 0
  Off i =
      ((v ≤ byte bytes (9 + 3 * i)) ⊎ (v ≤ byte bytes (11 + 3 * i)))
      ⊎ ((byte bytes (10 + 3 * i) < 1) ⊎ (8 < byte bytes (10 + 3 * i)))

  test_stray : (i : ℕ) → Tests (stray bytes i) (¬ (ValidTriple v i))
  test_stray i =
      test_map there back
      (test_or (test_or (test_le v (byte bytes (9 + 3 * i))) (test_le v (byte bytes (11 + 3 * i))))
      (test_or (test_lt (byte bytes (10 + 3 * i)) 1) (test_lt 8 (byte bytes (10 + 3 * i)))))
    where
      there : Off i → ¬ (ValidTriple v i)
      there (inl (inl h)) ((a, b), (c, d)) = omega (arith, h, a)
      there (inl (inr h)) ((a, b), (c, d)) = omega (arith, h, b)
      there (inr (inl h)) ((a, b), (c, d)) = omega (arith, h, c)
      there (inr (inr h)) ((a, b), (c, d)) = omega (arith, h, d)

      back : ¬ (ValidTriple v i) → Off i
      back no_edge =
          elim (dec_lt (byte bytes (9 + 3 * i)) v) [
            | no h ↦ inl (inl (omega (arith, h)))
            | yes a ↦ elim (dec_lt (byte bytes (11 + 3 * i)) v) [
              | no h ↦ inl (inr (omega (arith, h)))
              | yes b ↦ elim (dec_lt (byte bytes (10 + 3 * i)) 1) [
                | yes h ↦ inr (inl h)
                | no c ↦ elim (dec_lt 8 (byte bytes (10 + 3 * i))) [
                  | yes h ↦ inr (inr h)
                  | no d ↦ absurd (no_edge ((a, b), (omega (arith, c), omega (arith, d))))
                ]
              ]
            ]
          ]

  edge_known : (i : ℕ) → ¬ (¬ (ValidTriple v i)) → ValidTriple v i
  edge_known i h =
      elim (test_dec (test_and (test_and (test_lt (byte bytes (9 + 3 * i)) v) (test_lt (byte bytes (11 + 3 * i)) v))
      (test_and (test_le 1 (byte bytes (10 + 3 * i))) (test_le (byte bytes (10 + 3 * i)) 8)))) [ yes l ↦ l | no d ↦ absurd (h d) ]

  abbrev Wrong : Type 0
  Wrong =
      ((i : ℕ) × Memᴰ i (up_to n) × (¬ (ValidTriple v i)))
      ⊎ ((i : ℕ) × Memᴰ i (up_to (n - 1)) × (nth_edge bytes (i + 1) ≤ nth_edge bytes i))

  test_right : Tests (not (any? (stray bytes) (up_to n) || any? (falls bytes) (up_to (n - 1)))) (RightBytes v 0 n)
  test_right =
      test_map there back
      (test_not (test_or (test_any test_stray (up_to n)) (test_any (λ i. test_le (nth_edge bytes (i + 1)) (nth_edge bytes i)) (up_to (n - 1)))))
    where
      there : ¬ Wrong → RightBytes v 0 n
      there w =
          record {
            edges = λ i _ k. edge_known i (λ d. w (inl (i, up_to_lem (omega (arith, k)), d)));
            up = λ i _ k. elim (dec_lt (nth_edge bytes i) (nth_edge bytes (i + 1))) [
              | yes h ↦ h
              | no h ↦ absurd (w (inr (i, up_to_lem (omega (arith, k)), omega (arith, h))))
            ];
          }

      back : RightBytes v 0 n → ¬ Wrong
      back r (inl (i, m, d)) = d (r.edges i (omega arith) (omega (arith, below m)))
      back r (inr (i, m, h)) = let k = r.up i (omega arith) (omega (arith, below m)) in omega (arith, h, k)

  -- check 16 of a card of the right length
  pub triples_agree : length bytes ≡ 9 + 3 * n → (any? (stray bytes) (up_to n) || any? (falls bytes) (up_to (n - 1))) ≡ not (rising_triples? v 0 (drop head_bytes bytes))
  triples_agree e =
      let rises : Tests (rising_triples? v 0 (drop (9 + 3 * 0) bytes)) (RightBytes v 0 n) = test_map (rises_right v 0 0 n) back (test_rises v 0 0 n (omega (arith, e))) in
      not_not _ ∙ ap not (test_agree test_right rises)
    where
      back : RightBytes v 0 n → Rises v 0 0 n
      back r = right_rises v 0 0 n (λ h. let l = (r.edges 0 (omega arith) (omega (arith, h))).1.0 in omega (arith, l)) r

  -- and its edges
  pub edges_agree : length bytes ≡ 9 + 3 * n → edges_of (drop head_bytes bytes) ≡ map (nth_edge bytes) (up_to n)
  edges_agree e = edges_from 0 n (omega (arith, e))
