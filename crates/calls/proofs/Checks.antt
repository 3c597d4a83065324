-- Laws of refusals: a check that passes hands on to the next, and one that does not gives its number.
use mathlib.Core.Path.{◌≡◌, refl, subst}
use mathlib.Core.Bool.{Bool, true, false}
use mathlib.Core.List.{List, [], ◌∷◌}
use Prim.Native.Nat.{ℕ, zero, suc, ◌≤◌, ◌<◌}
use native.Mathlib.Omega.{arith}
use lib.Dec.{T}
use Rattle.model.specs.Limits.{most_vertices, most_longest}
use Rattle.model.specs.Edges.{Bounds}
use Rattle.model.proofs.Tests.{Tests, test_and, test_le, test_lt, test_true, test_yields}
use Rattle.calls.specs.Checks.{vertices?, longest?, ends?, Check, first_refusal, header_refusal}

-- how a list of checks comes to its number
pub data First : List Check → ℕ → Type 0 where
  none : First [] 0
  pass : {n m : ℕ} {b : Bool} {later : List Check} → b ≡ true → First later m → First ((n, b) ∷ later) m
  stop : {n : ℕ} {b : Bool} {later : List Check} → b ≡ false → First ((n, b) ∷ later) n

pub first_is : {l : List Check} {n : ℕ} → First l n → first_refusal l ≡ n
unfolding first_refusal
first_is none = refl
first_is (pass e f) = rw e (first_is f)
first_is (stop e) = rw e

-- every check has a number above 0
abbrev pub numbered? : List Check → Bool
numbered? [] = true
numbered? ((zero, b) ∷ l) = false
numbered? ((suc n, b) ∷ l) = numbered? l

-- a list of checks comes to the number that it gives
pub first_of : (l : List Check) {n : ℕ} → T (numbered? l) → first_refusal l ≡ n → First l n
unfolding first_refusal
first_of [] q e = subst (First []) e none
first_of ((zero, b) ∷ l) q e = absurd q
first_of ((suc n, true) ∷ l) q e = pass refl (first_of l q e)
first_of ((suc n, false) ∷ l) q e = subst (First ((suc n, false) ∷ l)) e (stop refl)

-- if none refuses, each passes
pub data Passed : List Check → Type 0 where
  done : Passed []
  also : {n : ℕ} {b : Bool} {l : List Check} → b ≡ true → Passed l → Passed ((n, b) ∷ l)

pub passes : (l : List Check) → T (numbered? l) → first_refusal l ≡ 0 → Passed l
unfolding first_refusal
passes [] q e = done
passes ((zero, b) ∷ l) q e = absurd q
passes ((suc n, true) ∷ l) q e = also refl (passes l q e)
passes ((suc n, false) ∷ l) q e = absurd (omega arith)

-- ---- the record's checks

record Both (a b : Bool) : Type 0 where
  first : a ≡ true
  second : b ≡ true

both_pass : (a b : Bool) → first_refusal ((1, a) ∷ (2, b) ∷ []) ≡ 0 → Both a b
unfolding first_refusal
both_pass true true e = record { first = refl; second = refl }
both_pass true false e = absurd (omega arith)
both_pass false b e = absurd (omega arith)

one_stops : (later : List Check) (a b : Bool) {n : ℕ} → first_refusal ((1, a) ∷ (2, b) ∷ []) ≡ n → 1 ≤ n → First ((1, a) ∷ (2, b) ∷ later) n
unfolding first_refusal
one_stops later true true e h = absurd (omega arith)
one_stops later true false e h = subst (First ((1, true) ∷ (2, false) ∷ later)) e (pass refl (stop refl))
one_stops later false b e h = subst (First ((1, false) ∷ (2, b) ∷ later)) e (stop refl)

module _ (vertices longest : ℕ) where
  pub header_is : {n : ℕ} → First ((1, vertices? vertices) ∷ (2, longest? longest) ∷ []) n → header_refusal vertices longest ≡ n
  unfolding header_refusal
  header_is f = first_is f

  -- their number is the call's, or they pass
  pub header_stop : {later : List Check} {n : ℕ} → header_refusal vertices longest ≡ n → 1 ≤ n
      → First ((1, vertices? vertices) ∷ (2, longest? longest) ∷ later) n
  unfolding header_refusal
  header_stop {later} e h = one_stops later (vertices? vertices) (longest? longest) e h

  pub header_pass : {later : List Check} {n : ℕ} → header_refusal vertices longest ≡ 0 → First later n
      → First ((1, vertices? vertices) ∷ (2, longest? longest) ∷ later) n
  unfolding header_refusal
  header_pass e f = let p = both_pass (vertices? vertices) (longest? longest) e in pass p.first (pass p.second f)

-- what they test
pub test_vertices : (vertices : ℕ) → Tests (vertices? vertices) ((1 ≤ vertices) × (vertices ≤ most_vertices))
test_vertices vertices = test_and (test_le 1 vertices) (test_le vertices most_vertices)

pub test_longest : (longest : ℕ) → Tests (longest? longest) ((1 ≤ longest) × (longest ≤ most_longest))
test_longest longest = test_and (test_le 1 longest) (test_le longest most_longest)

-- and leave
pub bounded : {vertices longest : ℕ} → vertices? vertices ≡ true → longest? longest ≡ true → Bounds vertices longest
bounded {vertices} {longest} p q =
    let v = test_yields (test_vertices vertices) p in
    let k = test_yields (test_longest longest) q in
    record { vertices_least = v.0; vertices_most = v.1; longest_least = k.0; longest_most = k.1 }

pub header_good : (vertices longest : ℕ) → header_refusal vertices longest ≡ 0 → Bounds vertices longest
unfolding header_refusal
header_good vertices longest e = let p = both_pass (vertices? vertices) (longest? longest) e in bounded p.first p.second

-- within those bounds they pass
pub bounds_pass : {vertices longest : ℕ} {later : List Check} {n : ℕ} → Bounds vertices longest → First later n
    → First ((1, vertices? vertices) ∷ (2, longest? longest) ∷ later) n
bounds_pass {vertices} {longest} b f =
    pass (test_true (test_vertices vertices) (b.vertices_least, b.vertices_most)) (pass (test_true (test_longest longest) (b.longest_least, b.longest_most)) f)

-- start and destination
pub test_ends : (vertices s t : ℕ) → Tests (ends? vertices s t) ((s < vertices) × (t < vertices))
test_ends vertices s t = test_and (test_lt s vertices) (test_lt t vertices)
