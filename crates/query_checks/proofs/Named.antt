-- Checks 10 and 11, which end a call's checks.
use mathlib.Core.Path.{◌≡◌, sym}
use mathlib.Core.Bool.{Bool, true, false}
use mathlib.Core.List.{List, [], ◌∷◌}
use Prim.Native.Nat.{ℕ, ◌≤◌}
use lib.ListN.{length}
use borrow.Author.Tests.{le-leb}
use Rattle.model.specs.Limits.{least_work}
use Rattle.model.specs.Computed.Patterns.{keyed?}
use Rattle.calls.specs.Call.{Size, Memory}
use Rattle.calls.specs.Checks.{ends?, header_refusal}
use Rattle.calls.specs.Query.{ask_refusal}
use Rattle.calls.specs.Search.{search_refusal}
use Rattle.calls.proofs.Checks.{First, first_of, first_is, pass, stop, Passed, also, done, passes, header_pass}
use Rattle.checks.specs.LayoutChecks.{LayoutPasses}
use Rattle.checks.proofs.LayoutChecks.{layout_pass}
use Rattle.query_checks.specs.SearchChecks.{named_refusal}

pub named_first : (size : Size) (start destination : ℕ) (pattern : List ℕ) {n : ℕ} → named_refusal size start destination pattern ≡ n
    → First ((10, ends? size.vertices start destination) ∷ (11, keyed? size.longest pattern) ∷ []) n
unfolding named_refusal
named_first size start destination pattern e = first_of _ tt e

-- if neither refuses, both pass
pub named_passes : (size : Size) (start destination : ℕ) (pattern : List ℕ) → named_refusal size start destination pattern ≡ 0
    → (ends? size.vertices start destination ≡ true) × (keyed? size.longest pattern ≡ true)
unfolding named_refusal
named_passes size start destination pattern e = both (passes _ tt e)
  where
    both : {a b : Bool} → Passed ((10, a) ∷ (11, b) ∷ []) → (a ≡ true) × (b ≡ true)
    both (also p (also q done)) = (p, q)

-- a call's number where the checks before them have passed and one of them does not
module _ (size : Size) (start destination : ℕ) (pattern : List ℕ) where
  pub search_ends : (m : Memory) {n : ℕ} → LayoutPasses size.vertices size.longest m.edges n → least_work ≤ length m.work → ends? size.vertices start destination ≡ false
      → search_refusal size start destination pattern m ≡ 10
  unfolding search_refusal
  search_ends m p room e = layout_pass p (pass (le-leb least_work (length m.work) room) (stop e))

  pub ask_pattern : header_refusal size.vertices size.longest ≡ 0 → ends? size.vertices start destination ≡ true → keyed? size.longest pattern ≡ false
      → 11 ≡ ask_refusal size start destination pattern
  unfolding ask_refusal
  ask_pattern p e k = sym (first_is (header_pass size.vertices size.longest p (pass e (stop k))))
