-- Codes that were seen, and the ends below which side, owner and hub are right.
use mathlib.Core.Path.{◌≡◌, refl, sym, ◌∙◌}
use mathlib.Core.Logic.{◌⊎◌, inl, inr, ⊎_elim, ◌≢◌}
use mathlib.Core.Bool.{Bool, true, false}
use mathlib.Core.List.{List}
use Prim.Native.Nat.{ℕ, ◌+◌, ◌*◌, ◌≤◌, ◌<◌}
use native.Mathlib.Omega.{arith}
use native.Mathlib.Decide.{ℕ_discrete, dec_lt}
use lib.ListN.{length, get_or, set, replicate, length-set, length-replicate, get_or-replicate, get_or-eq_default}
use lib.Seq.{get_or-set_same, get_or-set_other}
use borrow.Author.Tests.{lt-ltb}
use Rattle.model.specs.Limits.{hub_unit, owner_unit, side_unit}
use Rattle.model.specs.Computed.Query.{side_of, owner_of, hub_of, code_of, code?, entry?}
use Rattle.model.proofs.Tests.{test_false, test_yields}
use Rattle.model.proofs.IndexMemory.{Valid, test_entry}
use Rattle.scan.specs.Scan.{slots, slot_of, Seen, Examines, FieldEnd, Within, HubsBelow}

-- a number of the empty table
zeros : (k : ℕ) → get_or {A = ℕ} (replicate slots 0) k 0 ≡ 0
zeros k = elim (dec_lt k slots) [
  | yes l ↦ get_or-replicate slots k 0 0 l
  | no l ↦ let h : length {A = ℕ} (replicate slots 0) ≤ k = omega (arith, length-replicate {A = ℕ} slots 0) in get_or-eq_default (replicate slots 0) 0 h
]

-- what is found in a slot once v is kept in slot i: v, or what was found there before
found : (seen : List ℕ) (i v k c : ℕ) → i < length seen → get_or (set seen i v) k 0 ≡ c → ((k ≡ i) × (c ≡ v)) ⊎ ((k ≢ i) × (get_or seen k 0 ≡ c))
found seen i v k c h e = elim (ℕ_discrete k i) [
  | yes p ↦ inl (p, sym e ∙ rw p (get_or-set_same seen i v 0 h))
  | no p ↦ inr (p, sym (get_or-set_other seen i k v 0 p) ∙ e)
]

-- no code yet, and one code more
pub seen_none : (longest : ℕ) → Seen longest (set (replicate slots 0) 0 1)
seen_none longest =
    let long = length-replicate {A = ℕ} slots 0 in
    record {
      long = length-set {A = ℕ} (replicate slots 0) 0 1 ∙ long;
      right = λ c e. absurd (⊎_elim
          (λ (p, q). let z : slot_of 1 ≡ 0 = rw q at p in omega arith)
          (λ (p, q). let z : c ≡ 0 = sym q ∙ zeros (slot_of c) in p (rw z refl))
          (found (replicate slots 0) 0 1 (slot_of c) c (omega arith) e));
    }

pub seen_more : {longest : ℕ} {seen : List ℕ} (code : ℕ) → Seen longest seen → code? longest code ≡ true → Seen longest (set seen (slot_of code) code)
seen_more {longest} {seen} code m h = record {
  long = length-set seen _ _ ∙ m.long;
  right = λ c e. ⊎_elim (λ (p, q). rw q h) (λ (p, q). m.right c q) (found seen (slot_of code) code (slot_of c) c (omega (arith, m.long)) e);
}

-- a number with a wrong field is no entry
pub no_entry : (vertices longest x : ℕ) → ¬ Valid vertices longest x → entry? vertices longest x ≡ false
no_entry vertices longest x n = test_false (test_entry vertices longest x) n

-- nor is one with another side
pub no_side : {vertices longest x : ℕ} {seen : List ℕ} → 2 ≤ side_of x → Seen longest seen → Examines vertices longest x seen false
no_side {vertices} {longest} {x} h s = record { is = sym (no_entry vertices longest x (λ v. omega (arith, v.side, h))); seen = s }

-- a number whose other fields are right is an entry if its code is one
pub code_entry : (vertices longest x : ℕ) {b : Bool} → side_of x < 2 → owner_of x < vertices → hub_of x < vertices → code? longest (code_of x) ≡ b
    → entry? vertices longest x ≡ b
unfolding entry?
code_entry vertices longest x s o h e = simp (lt-ltb _ _ s, lt-ltb _ _ o, lt-ltb _ _ h, e)

module _ {vertices n : ℕ} (m : FieldEnd vertices n) where
  pub hubs_below : HubsBelow vertices (n * hub_unit)
  hubs_below = record {
    right = λ x h. omega (arith, m.most);
    wrong = λ x h longest. no_entry vertices longest x (λ v. omega (arith, m.least (hub_of x) (omega arith) v.hub));
  }

  -- to the end of the side
  pub within : (x : ℕ) → side_of x < 2 → Within vertices x (side_of x * side_unit + n * owner_unit)
  within x s = record { side = λ y l k. omega (arith, same y l k); owner = λ y l k. omega (arith, m.most, same y l k) }
    where
      same : (y : ℕ) → x ≤ y → y < side_of x * side_unit + n * owner_unit → side_of y ≡ side_of x
      same y l k = omega (arith, m.small)

pub entry_side : (vertices longest x : ℕ) → entry? vertices longest x ≡ true → side_of x < 2
entry_side vertices longest x e = (test_yields (test_entry vertices longest x) e).side
