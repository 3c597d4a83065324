-- Laws of one step or more.
use mathlib.Core.Logic.{◌↔◌}
use Prim.Native.Nat.{ℕ}
use Rattle.model.specs.Build.Hubs.{Plus, one, more, Onward}

pub plus_then : {R : ℕ → ℕ → Type 0} {a m b : ℕ} → Plus R a m → Plus R m b → Plus R a b
plus_then (one s) r = more s r
plus_then (more s q) r = more s (plus_then q r)

pub first_step : {R : ℕ → ℕ → Type 0} {a b : ℕ} → Plus R a b → (m : ℕ) × R a m
first_step (one s) = (_, s)
first_step (more s q) = (_, s)

-- P holds of every vertex that steps anywhere
pub plus_from : {R : ℕ → ℕ → Type 0} (P : ℕ → Type 0) → ((a b : ℕ) → R a b → P a) → {a b : ℕ} → Plus R a b → P a
plus_from P f q = f _ _ (first_step q).1

-- a second step follows a step from a if one step or more lead from a to a vertex that steps anywhere
pub plus_onward : {R : ℕ → ℕ → Type 0} {a m b : ℕ} → Plus R a m → Plus R m b → Onward R a
plus_onward (one s) (one t) = record { middle = _; end = _; first = s; second = t }
plus_onward (one s) (more t q) = record { middle = _; end = _; first = s; second = t }
plus_onward (more s (one t)) r = record { middle = _; end = _; first = s; second = t }
plus_onward (more s (more t q)) r = record { middle = _; end = _; first = s; second = t }

-- P holds of what a steps to, and of what any vertex of P steps to
pub plus_in : {R : ℕ → ℕ → Type 0} (P : ℕ → Type 0) → ((m b : ℕ) → P m → R m b → P b) → {a b : ℕ} → ((m : ℕ) → R a m → P m) → Plus R a b → P b
plus_in P on first (one s) = first _ s
plus_in P on first (more s q) = plus_in P on (λ m t. on _ m (first _ s) t) q

-- each step of R is one of S or more
pub plus_flat : {R S : ℕ → ℕ → Type 0} → ((a b : ℕ) → R a b → Plus S a b) → {a b : ℕ} → Plus R a b → Plus S a b
plus_flat f (one s) = f _ _ s
plus_flat f (more s q) = plus_then (f _ _ s) (plus_flat f q)

-- Plus is monotone, so equivalent relations have equivalent closures
pub plus_map : {R S : ℕ → ℕ → Type 0} → ((a b : ℕ) → R a b → S a b) → {a b : ℕ} → Plus R a b → Plus S a b
plus_map f = plus_flat (λ a b s. one (f a b s))

pub plus_as : {R S : ℕ → ℕ → Type 0} → ((a b : ℕ) → R a b ↔ S a b) → (a b : ℕ) → Plus R a b ↔ Plus S a b
plus_as f a b = (plus_map (λ m n. (f m n).0), plus_map (λ m n. (f m n).1))
