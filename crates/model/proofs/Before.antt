-- The order of walks: fewer edges first, and among equals by the edges from the start. Walks are given by their edges, the last one first,
-- so a walk is before another where its part without the last edge is, or where these are the same and its last edge is lower.
use mathlib.Core.Path.{◌≡◌, refl, sym, ap, ap₂, ◌∙◌}
use mathlib.Core.Logic.{◌⊎◌, inl, inr}
use mathlib.Core.List.{List, [], ◌∷◌, reverse, reverse_aux, cons≢nil, tail-eq_of_cons-eq, head-eq_of_cons-eq}
use Prim.Native.Nat.{ℕ, ◌≤◌, ◌<◌}
use native.Mathlib.Decide.{dec_lt}
use native.Mathlib.Omega.{arith}
use lib.ListN.{length}
use Rattle.model.specs.Routes.{◌⊑◌, both, lower, equal}
use Rattle.model.specs.Queue.{◌≺◌, none, early, last, ◌≼◌, same, before}

pub lt_irrefl : {p q : List ℕ} → p ≺ q → p ≡ q → ⊥
lt_irrefl none e = cons≢nil (sym e)
lt_irrefl (early h) e = lt_irrefl h (tail-eq_of_cons-eq e)
lt_irrefl (last h k) e = let x : _ ≡ _ = head-eq_of_cons-eq e in omega arith

pub lt_trans : {p q r : List ℕ} → p ≺ q → q ≺ r → p ≺ r
lt_trans none (early k) = none
lt_trans none (last e k) = none
lt_trans (early h) (early k) = early (lt_trans h k)
lt_trans (early h) (last e k) = early (rw e at h)
lt_trans (last d h) (early k) = early (rw (sym d) at k)
lt_trans (last {e = x} d h) (last {f = y} e k) = last {e = x} {f = y} (d ∙ e) (omega arith)

pub le_lt_trans : {p q r : List ℕ} → p ≼ q → q ≺ r → p ≺ r
le_lt_trans (same e) k = rw e k
le_lt_trans (before h) k = lt_trans h k

-- one of two is before the other, or they are the same
pub data Compared (p q : List ℕ) : Type 0 where
  less : p ≺ q → Compared p q
  alike : p ≡ q → Compared p q
  more : q ≺ p → Compared p q

pub three : (p q : List ℕ) → Compared p q
three [] [] = alike refl
three [] (f ∷ q) = less none
three (e ∷ p) [] = more none
three (e ∷ p) (f ∷ q) = go (three p q)
  where
    go : Compared p q → Compared (e ∷ p) (f ∷ q)
    go (less h) = less (early h)
    go (more h) = more (early h)
    go (alike d) = elim (dec_lt e f) [
      | yes h ↦ less (last d h)
      | no h ↦ elim (dec_lt f e) [ yes k ↦ more (last (sym d) k) | no k ↦ let x : e ≡ f = omega arith in alike (ap₂ ◌∷◌ x d) ]
    ]

-- a walk comes before the walks that go on from it
pub longer : (e : ℕ) (p : List ℕ) → p ≺ (e ∷ p)
longer e [] = none
longer e (x ∷ p) = early (longer x p)

pub cons_le : (e : ℕ) {p q : List ℕ} → p ≼ q → (e ∷ p) ≼ (e ∷ q)
cons_le e (same h) = same (ap (λ (m : List ℕ). e ∷ m) h)
cons_le e (before h) = before (early h)

-- what it is to be before a walk with a last edge
pub lt_cons : {e f : ℕ} {p q : List ℕ} → (e ∷ p) ≺ (f ∷ q) → (p ≺ q) ⊎ ((p ≡ q) × (e < f))
lt_cons (early h) = inl h
lt_cons (last d h) = inr (d, h)

-- ---- what the order says in running order

lt_length : {p q : List ℕ} → p ≺ q → length p ≤ length q
lt_length none = omega arith
lt_length (early h) = omega (arith, lt_length h)
lt_length (last e h) = omega (arith, ap length e)

pub le_length : {p q : List ℕ} → p ≼ q → length p ≤ length q
le_length (same e) = omega (arith, ap length e)
le_length (before h) = lt_length h

sub_refl : (l : List ℕ) → l ⊑ l
sub_refl [] = both
sub_refl (x ∷ l) = equal refl (sub_refl l)

onto_sub : (p : List ℕ) {l m : List ℕ} → l ⊑ m → reverse_aux p l ⊑ reverse_aux p m
onto_sub [] h = h
onto_sub (x ∷ p) h = onto_sub p (equal refl h)

onto_lt : {p q : List ℕ} → p ≺ q → length p ≡ length q → (l m : List ℕ) → reverse_aux p l ⊑ reverse_aux q m
onto_lt none k l m = absurd (omega arith)
onto_lt (early {e = e} {f = f} h) k l m = onto_lt h (omega arith) (e ∷ l) (f ∷ m)
onto_lt (last {e = e} {f = f} {p = p} d h) k l m = rw (← d) (onto_sub p (lower h))

pub le_sub : {p q : List ℕ} → p ≼ q → length p ≡ length q → reverse p ⊑ reverse q
le_sub {p} (same e) k = rw (← e) (sub_refl (reverse p))
le_sub (before h) k = onto_lt h k [] []

-- two lists that are each no later than the other are one
pub sub_antisymm : {l m : List ℕ} → l ⊑ m → m ⊑ l → l ≡ m
sub_antisymm both both = refl
sub_antisymm (lower h) (lower k) = absurd (omega arith)
sub_antisymm (lower h) (equal e k) = absurd (omega arith)
sub_antisymm (equal d h) (lower k) = absurd (omega arith)
sub_antisymm (equal d h) (equal e k) = ap₂ ◌∷◌ d (sub_antisymm h k)
