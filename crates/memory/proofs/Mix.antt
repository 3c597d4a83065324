-- A loop that turns a list into another of the same length, one store a turn, from the front.
use mathlib.Core.Path.{◌≡◌, refl, sym, ◌∙◌}
use mathlib.Core.List.{List}
use Prim.Native.Nat.{ℕ, ◌+◌, ◌≤◌, ◌<◌}
use native.Mathlib.Decide.{dec_lt}
use native.Mathlib.Omega.{arith}
use lib.ListN.{length, get_or, set, length-set}
use lib.Seq.{ext_get_or}
use Rattle.model.proofs.Lists.{get_d_set}

-- the list is as a before slot i, and as b from there on
pub record Mixed (a b cur : List ℕ) (i : ℕ) : Type 0 where
  pub same : length a ≡ length b
  pub size : length cur ≡ length b
  pub front : (k : ℕ) → k < i → get_or cur k 0 ≡ get_or a k 0
  pub back : (k : ℕ) → i ≤ k → get_or cur k 0 ≡ get_or b k 0

-- from the front b turns into a
module _ {a b : List ℕ} where
  pub front_none : length a ≡ length b → Mixed a b b 0
  front_none e = record { same = e; size = refl; front = λ k h. absurd (omega arith); back = λ k h. refl }

  module _ {cur : List ℕ} {i : ℕ} (m : Mixed a b cur i) where
    pub front_turn : {v : ℕ} → i < length cur → v ≡ get_or a i 0 → Mixed a b (set cur i v) (i + 1)
    front_turn {v} h e =
        record {
          same = m.same;
          size = length-set cur i v ∙ m.size;
          front = λ k l. get_d_set cur i v k _ h (λ q. rw q e) (λ d. m.front k (omega arith));
          back = λ k l. get_d_set cur i v k _ h (λ q. absurd (omega arith)) (λ d. m.back k (omega arith));
        }

    pub front_end : ((k : ℕ) → i ≤ k → k < length b → get_or b k 0 ≡ get_or a k 0) → cur ≡ a
    front_end f =
        ext_get_or 0 cur a (m.size ∙ sym m.same)
        (λ k l. elim (dec_lt k i) [ yes h ↦ m.front k h | no h ↦ let u : i ≤ k = omega arith in m.back k u ∙ f k u (omega arith) ])

    -- all slots are stored
    pub front_full : length cur ≤ i → cur ≡ a
    front_full h = front_end (λ k l u. absurd (omega arith))
