-- Laws of lighting a route: what it comes to for given edges, and what it leaves whichever they are.
use mathlib.Core.Path.{◌≡◌, refl}
use mathlib.Core.List.{List, [], ◌∷◌}
use Prim.Native.Nat.{ℕ, ◌≤◌, ◌<◌}
use native.Mathlib.Decide.{dec_lt}
use native.Mathlib.Omega.{arith}
use lib.ListN.{length}
use Rattle.model.specs.Lists.{zeroed}
use Rattle.model.specs.Routes.{Routed, Yes, No, Refused}
use Rattle.model.proofs.Tests.{test_true, test_false, test_le}
use Rattle.calls.specs.Call.{Memory, cleared, Outcome}
use Rattle.calls.specs.Route.{lit, lighting}

pub lighting_none : (m : Memory) → lighting [] m ≡ record { reply = No; memory = cleared m }
unfolding lighting
lighting_none m = refl

pub lighting_yes : (es : List ℕ) (m : Memory) → 1 ≤ length es → length es ≤ length m.output → lighting es m ≡ record { reply = Yes (length es); memory = lit es m }
unfolding lighting
lighting_yes [] m some fits = absurd (omega arith)
lighting_yes (x ∷ es) m some fits = rw (test_true (test_le (length (x ∷ es)) (length m.output)) fits) refl

pub lighting_short : (es : List ℕ) (m : Memory) → length m.output < length es → lighting es m ≡ record { reply = Refused 18; memory = cleared m }
unfolding lighting
lighting_short [] m less = absurd (omega arith)
lighting_short (x ∷ es) m less = rw (test_false (test_le (length (x ∷ es)) (length m.output)) (λ k. omega arith)) refl

-- there is no other case
pub data LightingCase (es : List ℕ) (m : Memory) : Outcome Routed → Type 0 where
  nothing : es ≡ [] → LightingCase es m (record { reply = No; memory = cleared m })
  fits : 1 ≤ length es → length es ≤ length m.output → LightingCase es m (record { reply = Yes (length es); memory = lit es m })
  too_long : length m.output < length es → LightingCase es m (record { reply = Refused 18; memory = cleared m })

pub lighting_case : (es : List ℕ) (m : Memory) → LightingCase es m (lighting es m)
lighting_case [] m = rw (lighting_none m) (nothing refl)
lighting_case (x ∷ es) m = elim (dec_lt (length m.output) (length (x ∷ es))) [
  | yes less ↦ rw (lighting_short (x ∷ es) m less) (too_long less)
  | no d ↦
      let some : 1 ≤ length (x ∷ es) = omega arith in
      let enough : length (x ∷ es) ≤ length m.output = omega arith in
      rw (lighting_yes (x ∷ es) m some enough) (fits some enough)
]

-- edge and index memory are as they were, and work memory is zero
pub record LeavesLit (m m' : Memory) : Type 0 where
  pub edges_same : m'.edges ≡ m.edges
  pub index_same : m'.index ≡ m.index
  pub work_zero : m'.work ≡ zeroed m.work

pub lighting_leaves : (es : List ℕ) (m : Memory) → LeavesLit m (lighting es m).memory
lighting_leaves es m = go (lighting_case es m)
  where
    go : {c : Outcome Routed} → LightingCase es m c → LeavesLit m c.memory
    go (nothing e) = record { edges_same = refl; index_same = refl; work_zero = refl }
    go (fits some enough) = record { edges_same = refl; index_same = refl; work_zero = refl }
    go (too_long less) = record { edges_same = refl; index_same = refl; work_zero = refl }
