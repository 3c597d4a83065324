-- The checks of the header (record) and of edge (leg) memory, with which calls on edges begin.
use Rattle.std.specs.Prelude.{◌≡◌, Some, Result, Ok, Err, List, [], ◌∷◌, ℕ}
use Rattle.model.specs.declared.Refusal.{Refusal}
use Rattle.model.specs.Replies.{number_of}
use Rattle.model.specs.Computed.Edges.{edge_memory?}
use Rattle.edges.specs.Memory.{scan_of}
use Rattle.calls.specs.Checks.{vertices?, longest?, first_refusal}
use Rattle.calls.specs.Call.{Size}

-- "1 2 3"
unfoldable pub layout_refusal : (vertices longest : ℕ) (edges : List ℕ) → ℕ
layout_refusal vertices longest edges =
    first_refusal ((1, vertices? vertices) ∷ (2, longest? longest) ∷ (3, edge_memory? vertices edges) ∷ [])

-- they have passed, and n edges stand
pub record LayoutPasses (vertices longest : ℕ) (edges : List ℕ) (n : ℕ) : Type 0 where
  pub is : layout_refusal vertices longest edges ≡ 0
  pub scanned : scan_of vertices edges ≡ Some n

abbrev pub Layouts : (size : Size) (edges : List ℕ) → Result ℕ Refusal → Type 0
Layouts size edges (Ok n) = LayoutPasses size.vertices size.longest edges n
Layouts size edges (Err r) = layout_refusal size.vertices size.longest edges ≡ number_of r
