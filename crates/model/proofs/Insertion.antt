-- An edge put in and taken out: where it belongs among rising numbers, and what stands afterwards.
use mathlib.Core.Path.{◌≡◌, refl, sym, ap, ◌∙◌}
use mathlib.Core.Logic.{◌⊎◌, inl, inr, ⊎_elim, ◌↔◌, ◌≢◌}
use mathlib.Core.List.Memᴰ
use mathlib.Core.List.{List, [], ◌∷◌}
use Prim.Native.Nat.{ℕ, suc, ◌≤◌, ◌<◌, zero-le, suc-le-suc}
use native.Mathlib.Decide.{dec_lt, ℕ_discrete}
use native.Mathlib.Omega.{arith}
use lib.ListN.{length, get_or}
use borrow.Author.Tests.{eq-eqb, ne_eqb, lt-ltb, le-ltb}
use Rattle.model.specs.Lists.{◌∈◌, none, next, Rising}
use Rattle.model.specs.Computed.Lists.{lower_bound}
use Rattle.model.specs.Computed.Edges.{insert_edge, remove_edge}

-- ---- where an edge belongs: x goes before slot k of ys, and zs is ys with x put in

pub data Placed (x : ℕ) : List ℕ → ℕ → List ℕ → Type 0 where
  last : Placed x [] 0 (x ∷ [])
  here : {y : ℕ} {ys : List ℕ} → x ≤ y → Placed x (y ∷ ys) 0 (x ∷ y ∷ ys)
  past : {y k : ℕ} {ys zs : List ℕ} → y < x → Placed x ys k zs → Placed x (y ∷ ys) (suc k) (y ∷ zs)

pub placed : (x : ℕ) (ys : List ℕ) → Placed x ys (lower_bound x ys) (insert_edge x ys)
unfolding lower_bound insert_edge
placed x [] = last
placed x (y ∷ ys) =
    elim (dec_lt y x) [ yes l ↦ rw (lt-ltb y x l) (past l (placed x ys)) | no l ↦ rw (le-ltb y x (omega arith)) (here {y = y} (omega arith)) ]

module _ {x : ℕ} where
  pub placed_most : {ys zs : List ℕ} {k : ℕ} → Placed x ys k zs → k ≤ length ys
  placed_most last = zero-le
  placed_most (here l) = zero-le
  placed_most (past l p) = suc-le-suc (placed_most p)

  placed_length : {ys zs : List ℕ} {k : ℕ} → Placed x ys k zs → length zs ≡ suc (length ys)
  placed_length last = refl
  placed_length (here l) = refl
  placed_length (past l p) = ap suc (placed_length p)

  placed_in : {ys zs : List ℕ} {k z : ℕ} → Placed x ys k zs → (z ≡ x) ⊎ (z ∈ ys) → z ∈ zs
  placed_in last (inl e) = Memᴰ.head e
  placed_in last (inr m) = absurd (Memᴰ.not-nil m)
  placed_in (here l) (inl e) = Memᴰ.head e
  placed_in (here l) (inr m) = Memᴰ.tail m
  placed_in (past l p) (inl e) = Memᴰ.tail (placed_in p (inl e))
  placed_in (past l p) (inr m) = ⊎_elim Memᴰ.head (λ k. Memᴰ.tail (placed_in p (inr k))) (Memᴰ.cases_cons m)

  placed_out : {ys zs : List ℕ} {k z : ℕ} → Placed x ys k zs → z ∈ zs → (z ≡ x) ⊎ (z ∈ ys)
  placed_out last m = Memᴰ.cases_cons m
  placed_out (here l) m = Memᴰ.cases_cons m
  placed_out (past l p) (Memᴰ.head e) = inr (Memᴰ.head e)
  placed_out (past l p) (Memᴰ.tail m) = ⊎_elim inl (λ k. inr (Memᴰ.tail k)) (placed_out p m)

  placed_rising : {ys zs : List ℕ} {k : ℕ} → Placed x ys k zs → Rising ys → ¬ (x ∈ ys) → Rising zs
  placed_rising last r a = next (λ z m. absurd (Memᴰ.not-nil m)) none
  placed_rising (here {y = y} l) (next h r) a =
      let low : x < y = elim (ℕ_discrete x y) [ yes e ↦ absurd (a (Memᴰ.head e)) | no d ↦ omega arith ] in
      next {x = x} (λ z m. ⊎_elim (λ e. rw e low) (λ k. let u = h z k in omega arith) (Memᴰ.cases_cons m)) (next h r)
  placed_rising (past l p) (next h r) a =
      next (λ z m. ⊎_elim (λ e. rw e l) (h z) (placed_out p m)) (placed_rising p r (λ m. a (Memᴰ.tail m)))

  -- among rising numbers x stands at its slot, or nowhere
  pub placed_stands : {ys zs : List ℕ} {k : ℕ} → Placed x ys k zs → Rising ys → x ∈ ys → (k < length ys) × (get_or ys k 0 ≡ x)
  placed_stands last r m = absurd (Memᴰ.not-nil m)
  placed_stands (here l) (next h r) (Memᴰ.head e) = (suc-le-suc zero-le, sym e)
  placed_stands (here l) (next h r) (Memᴰ.tail m) = let u = h x m in absurd (omega arith)
  placed_stands (past l p) (next h r) (Memᴰ.head e) = absurd (omega arith)
  placed_stands (past l p) (next h r) (Memᴰ.tail m) = let (a, b) = placed_stands p r m in (suc-le-suc a, b)

-- ---- the removal: zs is ys without the first x

pub data Removed (x : ℕ) : List ℕ → List ℕ → Type 0 where
  empty : Removed x [] []
  first : {y : ℕ} {ys : List ℕ} → y ≡ x → Removed x (y ∷ ys) ys
  later : {y : ℕ} {ys zs : List ℕ} → y ≢ x → Removed x ys zs → Removed x (y ∷ ys) (y ∷ zs)

pub removed : (x : ℕ) (ys : List ℕ) → Removed x ys (remove_edge x ys)
unfolding remove_edge
removed x [] = empty
removed x (y ∷ ys) = elim (ℕ_discrete y x) [ yes e ↦ rw (eq-eqb y x e) (first e) | no d ↦ rw (ne_eqb y x d) (later d (removed x ys)) ]

module _ {x : ℕ} where
  removed_length : {ys zs : List ℕ} → Removed x ys zs → x ∈ ys → suc (length zs) ≡ length ys
  removed_length empty m = absurd (Memᴰ.not-nil m)
  removed_length (first e) m = refl
  removed_length (later d p) (Memᴰ.head e) = absurd (d (sym e))
  removed_length (later d p) (Memᴰ.tail m) = ap suc (removed_length p m)

  removed_in : {ys zs : List ℕ} {z : ℕ} → Removed x ys zs → z ∈ ys → z ≢ x → z ∈ zs
  removed_in empty m n = m
  removed_in (first e) (Memᴰ.head q) n = absurd (n (q ∙ e))
  removed_in (first e) (Memᴰ.tail m) n = m
  removed_in (later d p) (Memᴰ.head q) n = Memᴰ.head q
  removed_in (later d p) (Memᴰ.tail m) n = Memᴰ.tail (removed_in p m n)

  removed_left : {ys zs : List ℕ} {z : ℕ} → Removed x ys zs → z ∈ zs → z ∈ ys
  removed_left empty m = m
  removed_left (first e) m = Memᴰ.tail m
  removed_left (later d p) (Memᴰ.head q) = Memᴰ.head q
  removed_left (later d p) (Memᴰ.tail m) = Memᴰ.tail (removed_left p m)

  removed_out : {ys zs : List ℕ} {z : ℕ} → Removed x ys zs → Rising ys → z ∈ zs → (z ∈ ys) × (z ≢ x)
  removed_out empty r m = absurd (Memᴰ.not-nil m)
  removed_out {z = z} (first e) (next h r) m = (Memᴰ.tail m, λ q. let u = h z m in omega arith)
  removed_out (later d p) (next h r) (Memᴰ.head q) = (Memᴰ.head q, λ e. d (sym q ∙ e))
  removed_out (later d p) (next h r) (Memᴰ.tail m) = let (a, b) = removed_out p r m in (Memᴰ.tail a, b)

  removed_rising : {ys zs : List ℕ} → Removed x ys zs → Rising ys → Rising zs
  removed_rising empty r = none
  removed_rising (first e) (next h r) = r
  removed_rising (later d p) (next h r) = next (λ z m. h z (removed_out p r m).0) (removed_rising p r)

-- ---- the edges with x put in, and with x taken out

module _ (x : ℕ) (ys : List ℕ) where
  pub length_insert : length (insert_edge x ys) ≡ suc (length ys)
  length_insert = placed_length (placed x ys)

  pub member_insert : (z : ℕ) → (z ∈ insert_edge x ys) ↔ ((z ≡ x) ⊎ (z ∈ ys))
  member_insert z = (placed_out (placed x ys), placed_in (placed x ys))

  pub rising_insert : Rising ys → ¬ (x ∈ ys) → Rising (insert_edge x ys)
  rising_insert = placed_rising (placed x ys)

  pub length_remove : x ∈ ys → suc (length (remove_edge x ys)) ≡ length ys
  length_remove = removed_length (removed x ys)

  pub member_remove : Rising ys → (z : ℕ) → (z ∈ remove_edge x ys) ↔ ((z ∈ ys) × (z ≢ x))
  member_remove r z = (removed_out (removed x ys) r, λ (m, n). removed_in (removed x ys) m n)

  -- nothing is put in, whether or not they rise
  pub member_left : {z : ℕ} → z ∈ remove_edge x ys → z ∈ ys
  member_left = removed_left (removed x ys)

  pub rising_remove : Rising ys → Rising (remove_edge x ys)
  rising_remove = removed_rising (removed x ys)
