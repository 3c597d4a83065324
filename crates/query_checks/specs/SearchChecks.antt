-- What the checks of a plain check or a route hand on.
use Rattle.std.specs.Prelude.{◌≡◌, Result, Ok, Err, List, [], ◌∷◌, ℕ, ◌≤◌, ◌<◌, length}
use Rattle.model.specs.Limits.{least_work}
use Rattle.model.specs.Patterns.{Keyed}
use Rattle.model.specs.Replies.{number_of}
use Rattle.model.specs.declared.Refusal.{Refusal}
use Rattle.calls.specs.Call.{Size, Memory}
use Rattle.model.specs.Computed.Patterns.{keyed?}
use Rattle.calls.specs.Checks.{ends?, first_refusal}
use Rattle.calls.specs.Search.{search_refusal}
use Rattle.checks.specs.LayoutChecks.{LayoutPasses}

-- "10 11"
unfoldable pub named_refusal : Size → (start destination : ℕ) (pattern : List ℕ) → ℕ
named_refusal size start destination pattern =
    first_refusal ((10, ends? size.vertices start destination) ∷ (11, keyed? size.longest pattern) ∷ [])

-- all have passed, and n edges stand
pub record SearchPasses (size : Size) (start destination : ℕ) (pattern : List ℕ) (m : Memory) (n : ℕ) : Type 0 where
  pub is : search_refusal size start destination pattern m ≡ 0
  pub layout : LayoutPasses size.vertices size.longest m.edges n
  pub room : least_work ≤ length m.work
  pub start_vertex : start < size.vertices
  pub destination_vertex : destination < size.vertices
  pub keyed : Keyed size.longest pattern

abbrev pub SearchChecks : Size → (start destination : ℕ) → List ℕ → Memory → Result ℕ Refusal → Type 0
SearchChecks size start destination pattern m (Err r) = search_refusal size start destination pattern m ≡ number_of r
SearchChecks size start destination pattern m (Ok n) = SearchPasses size start destination pattern m n
