-- The checks 1 2 3, with which calls begin: their number is the call's, or they pass.
use mathlib.Core.Path.{◌≡◌, ◌∙◌}
use mathlib.Core.List.{List, [], ◌∷◌}
use Prim.Native.Nat.{ℕ}
use Rattle.model.specs.Edges.{Bounds}
use Rattle.model.specs.Replies.{number_of}
use Rattle.model.specs.Computed.Edges.{edge_memory?}
use Rattle.model.specs.declared.Refusal.{Refusal}
use Rattle.model.proofs.Replies.{number_some}
use Rattle.edges.proofs.Memory.{Scans, scans}
use Rattle.calls.specs.Checks.{vertices?, longest?, Check, first_refusal, header_refusal}
use Rattle.calls.proofs.Checks.{First, first_is, header_good}
use Rattle.calls.proofs.Change.{stop_first, pass_first, front_passes}
use Rattle.checks.specs.LayoutChecks.{layout_refusal, LayoutPasses}

pub layout_stop : (vertices longest : ℕ) (edges : List ℕ) (later : List Check) (r : Refusal) → layout_refusal vertices longest edges ≡ number_of r
    → first_refusal ((1, vertices? vertices) ∷ (2, longest? longest) ∷ (3, edge_memory? vertices edges) ∷ later) ≡ number_of r
unfolding layout_refusal
layout_stop vertices longest edges later r e =
    stop_first ((1, vertices? vertices) ∷ (2, longest? longest) ∷ (3, edge_memory? vertices edges) ∷ []) later e (number_some r)

module _ {vertices longest n : ℕ} {edges : List ℕ} (p : LayoutPasses vertices longest edges n) where
  pub layout_pass : {later : List Check} {k : ℕ} → First later k
      → first_refusal ((1, vertices? vertices) ∷ (2, longest? longest) ∷ (3, edge_memory? vertices edges) ∷ later) ≡ k
  unfolding layout_refusal
  layout_pass {later} f =
      pass_first ((1, vertices? vertices) ∷ (2, longest? longest) ∷ (3, edge_memory? vertices edges) ∷ []) later tt p.is ∙ first_is f

  -- what they leave
  pub layout_header : Bounds vertices longest
  unfolding layout_refusal header_refusal
  layout_header =
      header_good vertices longest (front_passes ((1, vertices? vertices) ∷ (2, longest? longest) ∷ []) ((3, edge_memory? vertices edges) ∷ []) p.is)

  pub layout_memory : Scans vertices edges n
  layout_memory = scans vertices edges p.scanned
