-- Tests: Booleans that decide a statement.
use mathlib.Core.Path.{◌≡◌, refl, ap₂}
use mathlib.Core.Logic.{◌⊎◌, inl, inr, ⊎_map}
use mathlib.Core.Bool.{Bool, true, false, not, ◌&&◌, ◌||◌, cond}
use mathlib.Core.List.Memᴰ
use mathlib.Core.List.{List, [], ◌∷◌, Memᴰ}
use Prim.Native.Nat.{ℕ, suc, ◌≤◌, ◌<◌}
use lib.Dec.{T, eqb, leb, ltb, eqb→eq, eqb_refl, leb→le, le→leb}
use Rattle.model.specs.Lists.{any?, mem?}
use Rattle.model.specs.Computed.Lists.{all?, same?}

-- b is true if P holds, and only then
pub record Tests (b : Bool) (P : Type 0) : Type 0 where
  pub yields : T b → P
  pub passes : P → T b

pub test_map : {b : Bool} {P Q : Type 0} → (P → Q) → (Q → P) → Tests b P → Tests b Q
test_map f g p = record { yields = λ t. f (p.yields t); passes = λ q. p.passes (g q) }

-- what a test answers if its statement is known
pub test_true : {b : Bool} {P : Type 0} → Tests b P → P → b ≡ true
test_true {b = true} t p = refl
test_true {b = false} t p = absurd (t.passes p)

pub test_false : {b : Bool} {P : Type 0} → Tests b P → ¬ P → b ≡ false
test_false {b = true} t n = absurd (n (t.yields tt))
test_false {b = false} t n = refl

-- and what follows from its answer
pub test_yields : {b : Bool} {P : Type 0} → Tests b P → b ≡ true → P
test_yields t e = t.yields (rw e tt)

pub test_fails : {b : Bool} {P : Type 0} → Tests b P → b ≡ false → ¬ P
test_fails t e p = rw e at (t.passes p)

-- two tests of one statement
pub test_agree : {a b : Bool} {P : Type 0} → Tests a P → Tests b P → a ≡ b
test_agree {b = true} p q = test_true p (q.yields tt)
test_agree {b = false} p q = test_false p q.passes

pub test_dec : {b : Bool} {P : Type 0} → Tests b P → Dec P
test_dec {b = true} p = yes (p.yields tt)
test_dec {b = false} p = no (λ q. p.passes q)

pub test_not : {b : Bool} {P : Type 0} → Tests b P → Tests (not b) (¬ P)
test_not {b = true} p = record { yields = λ t. absurd t; passes = λ n. n (p.yields tt) }
test_not {b = false} p = record { yields = λ _. p.passes; passes = λ _. tt }

pub test_and : {a b : Bool} {P Q : Type 0} → Tests a P → Tests b Q → Tests (a && b) (P × Q)
test_and {a = true} p q = record { yields = λ t. (p.yields tt, q.yields t); passes = λ h. q.passes h.1 }
test_and {a = false} p q = record { yields = λ t. absurd t; passes = λ h. p.passes h.0 }

pub test_or : {a b : Bool} {P Q : Type 0} → Tests a P → Tests b Q → Tests (a || b) (P ⊎ Q)
test_or {a = true} p q = record { yields = λ _. inl (p.yields tt); passes = λ _. tt }
test_or {a = false} p q = record { yields = λ t. inr (q.yields t); passes = λ h. elim h [ inl x ↦ absurd (p.passes x) | inr x ↦ q.passes x ] }

pub test_eq : (a b : ℕ) → Tests (eqb a b) (a ≡ b)
test_eq a b = record { yields = eqb→eq a b; passes = λ e. rw e (eqb_refl b) }

pub test_le : (a b : ℕ) → Tests (leb a b) (a ≤ b)
test_le a b = record { yields = leb→le a b; passes = le→leb a b }

pub test_lt : (a b : ℕ) → Tests (ltb a b) (a < b)
test_lt a b = test_le (suc a) b

-- what holds of a choice by a test
pub by_test : {A P : Type 0} {b : Bool} (Q : A → Type 0) → Tests b P → {x z : A} → (P → Q x) → (¬ P → Q z) → Q (cond b x z)
by_test {b = true} Q p f g = f (p.yields tt)
by_test {b = false} Q p f g = g p.passes

-- what follows either way
pub both_ways : {A : Type 0} (b : Bool) → (b ≡ true → A) → (b ≡ false → A) → A
both_ways true f g = f refl
both_ways false f g = g refl

-- of a test that is known only by its statement
pub test_T : (b : Bool) → Tests b (T b)
test_T b = record { yields = λ t. t; passes = λ t. t }

module _ {A : Type 0} where
  pub test_any : {f : A → Bool} {P : A → Type 0} → ((x : A) → Tests (f x) (P x)) → (l : List A) → Tests (any? f l) ((x : A) × Memᴰ x l × P x)
  unfolding any?
  test_any p [] = record { yields = λ t. absurd t; passes = λ h. absurd (Memᴰ.not-nil h.1) }
  test_any {P = P} p (z ∷ l) = test_map there back (test_or (p z) (test_any p l))
    where
      there : P z ⊎ ((x : A) × Memᴰ x l × P x) → (x : A) × Memᴰ x (z ∷ l) × P x
      there (inl h) = (z, Memᴰ.head refl, h)
      there (inr (x, m, h)) = (x, Memᴰ.tail m, h)

      back : (x : A) × Memᴰ x (z ∷ l) × P x → P z ⊎ ((x : A) × Memᴰ x l × P x)
      back (x, m, h) = ⊎_map (λ e. rw e at h) (λ k. (x, k, h)) (Memᴰ.cases_cons m)

  pub test_all : {f : A → Bool} {P : A → Type 0} → ((x : A) → Tests (f x) (P x)) → (l : List A) → Tests (all? f l) ((x : A) → Memᴰ x l → P x)
  unfolding all?
  test_all p [] = record { yields = λ _ x m. absurd (Memᴰ.not-nil m); passes = λ _. tt }
  test_all {P = P} p (z ∷ l) = test_map there (λ f. (f z (Memᴰ.head refl), λ x m. f x (Memᴰ.tail m))) (test_and (p z) (test_all p l))
    where
      there : P z × ((x : A) → Memᴰ x l → P x) → (x : A) → Memᴰ x (z ∷ l) → P x
      there (h, f) x (Memᴰ.head e) = rw e h
      there (h, f) x (Memᴰ.tail m) = f x m

pub test_mem : (x : ℕ) (l : List ℕ) → Tests (mem? x l) (Memᴰ x l)
test_mem x l = test_map (λ h. rw h.2 h.1) (λ m. (x, m, refl)) (test_any (test_eq x) l)

pub same_out : (l m : List ℕ) → T (same? l m) → l ≡ m
same_out [] [] t = refl
same_out [] (d ∷ m) t = absurd t
same_out (c ∷ l) [] t = absurd t
same_out (c ∷ l) (d ∷ m) t = let (a, b) = (test_and (test_eq c d) (test_T (same? l m))).yields t in ap₂ ◌∷◌ a (same_out l m b)

pub same_refl : (l : List ℕ) → T (same? l l)
same_refl [] = tt
same_refl (c ∷ l) = (test_and (test_eq c c) (test_T (same? l l))).passes (refl, same_refl l)

pub test_same : (l m : List ℕ) → Tests (same? l m) (l ≡ m)
test_same l m = record { yields = same_out l m; passes = λ e. rw e (same_refl m) }
