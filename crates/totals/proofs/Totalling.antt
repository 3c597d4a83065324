-- Counting the labels of the standing edges, in one table for the even slots and one for the odd: the tables, an edge further.
use mathlib.Core.Path.{◌≡◌, ap, sym, ◌∙◌}
use mathlib.Core.Logic.{◌⊎◌, inl, inr, ⊎_elim, ◌≢◌}
use mathlib.Core.List.{List, [], ◌∷◌}
use Prim.Native.Nat.{ℕ, zero, suc, ◌/◌, ◌+◌, ◌-◌, ◌*◌, ◌≤◌, ◌<◌}
use native.Mathlib.Numerals.{add-one}
use native.Mathlib.Decide.{dec_lt}
use native.Mathlib.Omega.{arith}
use lib.Dec.{eqb}
use lib.ListN.{length, get_or, set, drop, replicate, length-set, length-map, length-drop, length-replicate, get_or-replicate, drop_of_length-le}
use lib.Seq.{drop-cons, get_or-take, get_or-drop, get_or-set_other, ext_get_or}
use Rattle.std.specs.Prelude.{Some, None}
use Rattle.std.specs.Simd.{first_chunks}
use Rattle.std.specs.List.{slice_get}
use Rattle.std.proofs.lemmas.Option.{slice_get_within, get_or_from_slice_get, slice_get-get_or}
use borrow.Author.Tests.{eq-eqb, ne_eqb}
use Rattle.model.specs.Limits.{most_edges, most_label}
use Rattle.model.specs.Lists.{from}
use Rattle.model.specs.Edges.{label_of, standing, total_of, totals_of}
use Rattle.model.proofs.Tests.{test_map, test_eq}
use Rattle.model.proofs.Lists.{length_from_lem, get_d_set}
use Rattle.model.proofs.Ranks.{one, raised}
use Rattle.model.proofs.Totals.{total_at, total_none, total_more, total_most}
use Rattle.memory.proofs.Reading.{standing_within}
use Rattle.totals.specs.Counts.{labels, both, LabelCounts}

-- the tables, and the edges that are still to be counted
pub record Totalled (edges counts : List ℕ) (i : ℕ) : Type 0 where
  pub inside : i ≤ length edges
  pub long : length counts ≡ 2 * labels
  pub each : (c : ℕ) → c < labels → both counts c + total_of (standing (drop i edges)) c ≡ total_of (standing edges) c

-- no edge counted yet
pub totalled_none : (edges : List ℕ) → Totalled edges (replicate (2 * labels) 0) 0
totalled_none edges = record {
  inside = omega arith;
  long = length-replicate {A = ℕ} (2 * labels) 0;
  each = λ c h. omega (arith, get_or-replicate {A = ℕ} (2 * labels) c 0 0 (omega arith), get_or-replicate {A = ℕ} (2 * labels) (labels + c) 0 0 (omega arith));
}

-- ---- the edges that still stand

module _ (edges : List ℕ) (i : ℕ) where
  -- the edge at slot i stands, and those behind it
  standing_next : i < length edges → get_or edges i 0 ≢ 0 → standing (drop i edges) ≡ get_or edges i 0 ∷ standing (drop (i + 1) edges)
  unfolding standing
  standing_next h n = rw (add-one, drop-cons edges i 0, ne_eqb (get_or edges i 0) 0 n)

  -- none stands from a zero on, nor behind the last slot
  standing_zero : i < length edges → get_or edges i 0 ≡ 0 → standing (drop i edges) ≡ []
  unfolding standing
  standing_zero h e = rw (drop-cons edges i 0, eq-eqb (get_or edges i 0) 0 e)

  standing_none : length edges ≤ i → standing (drop i edges) ≡ []
  unfolding standing
  standing_none h = rw (drop_of_length-le edges h)

-- ---- an edge more

-- the slot in which an edge is counted: that of its label in either table
abbrev Counted : ℕ → ℕ → Type 0
Counted k x = (k ≡ label_of x) ⊎ (k ≡ labels + label_of x)

abbrev pub raise : List ℕ → ℕ → List ℕ
raise counts k = set counts k (get_or counts k 0 + 1)

module _ (counts : List ℕ) (long : length counts ≡ 2 * labels) (k x : ℕ) where
  raises : (j c : ℕ) → k < 2 * labels → (label_of x ≡ c → k ≡ j) → (k ≡ j → label_of x ≡ c) → get_or (raise counts k) j 0 ≡ get_or counts j 0 + one (eqb (label_of x) c)
  raises j c h f g = raised counts k j (omega (arith, long)) (test_map f g (test_eq (label_of x) c))

  keeps : (j : ℕ) → j ≢ k → get_or (raise counts k) j 0 ≡ get_or counts j 0
  keeps j n = get_or-set_other counts k j (get_or counts k 0 + 1) 0 n

  -- it counts for its label, in one table or the other
  both_raised : Counted k x → (c : ℕ) → c < labels → both (raise counts k) c ≡ both counts c + one (eqb (label_of x) c)
  both_raised at c h = ⊎_elim
      (λ e. omega (arith, raises c c (omega arith) (λ q. omega arith) (λ q. omega arith), keeps (labels + c) (λ q. omega arith)))
      (λ e. omega (arith, raises (labels + c) c (omega arith) (λ q. omega arith) (λ q. omega arith), keeps c (λ q. omega arith)))
      at

module _ {edges counts : List ℕ} {i : ℕ} (t : Totalled edges counts i) where
  -- the edge at slot i in either table
  totalled_more : (k : ℕ) → Counted k (get_or edges i 0) → i < length edges → get_or edges i 0 ≢ 0 → Totalled edges (raise counts k) (i + 1)
  totalled_more k at h n =
      let x = get_or edges i 0 in
      record {
        inside = omega arith;
        long = length-set counts k (get_or counts k 0 + 1) ∙ t.long;
        each = λ c l. omega (
          arith,
          both_raised counts t.long k x at c l,
          t.each c l,
          ap (λ (s : List ℕ). total_of s c) (standing_next edges i h n),
          total_more x (standing (drop (i + 1) edges)) c,
        );
      }

  -- no count is more than the edges there can be
  module _ (few : length edges ≤ most_edges) where
    both_small : (c : ℕ) → c < labels → both counts c ≤ most_edges
    both_small c h = omega (arith, t.each c h, total_most (standing edges) c, standing_within edges)

    pub first_small : (x : ℕ) → get_or counts (label_of x) 0 ≤ most_edges
    first_small x = omega (arith, both_small (label_of x) (omega arith))

    pub second_small : (x : ℕ) → get_or counts (labels + label_of x) 0 ≤ most_edges
    second_small x = omega (arith, both_small (label_of x) (omega arith))

  -- where no edge is left, at a zero or behind the last slot, both tables together have the totals
  totalled_all : standing (drop i edges) ≡ [] → LabelCounts edges counts
  totalled_all e = record { long = t.long; each = λ c h. omega (arith, t.each c h, ap (λ (s : List ℕ). total_of s c) e, total_none c) }

  pub totalled_zero : i < length edges → get_or edges i 0 ≡ 0 → LabelCounts edges counts
  totalled_zero h e = totalled_all (standing_zero edges i h e)

  pub totalled_end : length edges ≤ i → LabelCounts edges counts
  totalled_end h = totalled_all (standing_none edges i h)

-- ---- the edges two by two

chunk_at : (n : ℕ) (xs : List ℕ) (j i : ℕ) → j < n → i < 2 → get_or (get_or (first_chunks 2 n xs) j []) i 0 ≡ get_or xs (2 * j + i) 0
chunk_at zero xs j i h l = absurd (omega arith)
chunk_at (suc n) xs zero i h l = let place : 2 * 0 + i ≡ i = omega arith in rw place (get_or-take 2 xs i 0 l)
chunk_at (suc n) xs (suc j) i h l =
    let place : 2 * suc j + i ≡ 2 + (2 * j + i) = omega arith in
    rw place (chunk_at n (drop 2 xs) j i (omega arith) l ∙ get_or-drop 2 xs (2 * j + i) 0)

module _ (edges : List ℕ) where
  -- what pair j has, and what is left behind all pairs
  pub pair_at : {pairs : List (List ℕ)} → pairs ≡ first_chunks 2 (length edges / 2) edges → (j i : ℕ) → j < length edges / 2 → i < 2
      → get_or (get_or pairs j []) i 0 ≡ get_or edges (2 * j + i) 0
  pair_at p j i h l = rw p (chunk_at (length edges / 2) edges j i h l)

  module _ {last : List ℕ} (p : last ≡ drop (length edges / 2 * 2) edges) where
    long : length last ≡ length edges - length edges / 2 * 2
    long = ap length p ∙ length-drop (length edges / 2 * 2) edges

    pub last_some : {x : ℕ} → slice_get last 0 ≡ Some x → (2 * (length edges / 2) < length edges) × (x ≡ get_or edges (2 * (length edges / 2)) 0)
    last_some {x} e =
        let place : length edges / 2 * 2 + 0 ≡ 2 * (length edges / 2) = omega arith in
        let inside : 0 < length last = slice_get_within last 0 x e in
        (omega (arith, long), sym (get_or_from_slice_get last 0 x 0 e) ∙ rw (p, ← place) (get_or-drop (length edges / 2 * 2) edges 0 0))

    pub last_none : slice_get last 0 ≡ None → length edges ≤ 2 * (length edges / 2)
    last_none e = elim (dec_lt 0 (length last)) [
      | yes h ↦ absurd (let q = slice_get-get_or last 0 0 h in let z : ◌≡◌ {A = ℕ} 0 1 = cc in omega arith)
      | no h ↦ omega (arith, long)
    ]

  module _ {counts : List ℕ} (x : ℕ) where
    -- the edge at slot i in the first table, or in the second
    pub first_more : (i : ℕ) → Totalled edges counts i → i < length edges → x ≡ get_or edges i 0 → x ≢ 0 → Totalled edges (raise counts (label_of x)) (i + 1)
    first_more i t h e n = totalled_more t (label_of x) (inl (ap label_of e)) h (λ z. n (e ∙ z))

    pub second_more : (i : ℕ) → Totalled edges counts i → i < length edges → x ≡ get_or edges i 0 → x ≢ 0 → Totalled edges (raise counts (labels + label_of x)) (i + 1)
    second_more i t h e n = totalled_more t (labels + label_of x) (inr (ap (λ (z : ℕ). labels + label_of z) e)) h (λ z. n (e ∙ z))

-- ---- the totals

-- the totals of the first i labels are those of both tables together
pub record Summed (counts totals : List ℕ) (i : ℕ) : Type 0 where
  pub long : length totals ≡ most_label
  pub each : (k : ℕ) → k < i → get_or totals k 0 ≡ both counts (k + 1)

pub summed_more : {counts totals : List ℕ} {i v : ℕ} → Summed counts totals i → i < most_label → v ≡ both counts (i + 1) → Summed counts (set totals i v) (i + 1)
summed_more {counts} {totals} {i} {v} s h e =
    record {
      long = length-set totals i v ∙ s.long;
      each = λ k l. get_d_set totals i v k (both counts (k + 1)) (omega (arith, s.long)) (λ q. rw q e) (λ n. s.each k (omega arith));
    }

module _ {edges counts : List ℕ} (t : LabelCounts edges counts) where
  pub counts_small : length edges ≤ most_edges → (c : ℕ) → c < labels → both counts c ≤ most_edges
  counts_small few c h = omega (arith, t.each c h, total_most (standing edges) c, standing_within edges)

  -- the table of totals, label by label
  pub each_total : {totals : List ℕ} → Summed counts totals most_label → totals ≡ totals_of (standing edges)
  unfolding totals_of
  each_total {totals} s =
      let long : length (totals_of (standing edges)) ≡ most_label = length-map (from 1 most_label) (total_of (standing edges)) ∙ length_from_lem 1 most_label in
      ext_get_or 0 totals (totals_of (standing edges)) (s.long ∙ sym long) (λ k h.
      let h : k < most_label = omega arith in
      let place : k + 1 - 1 ≡ k = omega arith in
      s.each k h ∙ t.each (k + 1) (omega arith) ∙ sym (rw place at (total_at (standing edges) (k + 1) (omega arith) (omega arith))))
