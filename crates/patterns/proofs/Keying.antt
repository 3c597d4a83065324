-- Check 11: what the length of a pattern leaves to its labels.
use Rattle.std.proofs.Common.{◌≡◌, refl, true, false, ◌&&◌, ℕ, ◌≤◌, ◌<◌, List, length, arith}
use Rattle.std.specs.List.{list_all}
use Rattle.std.proofs.lemmas.Grind.{common_steps}
use Rattle.std.proofs.lemmas.List.Recursion.{same_from_clauses}
use Rattle.model.specs.Computed.Lists.{all?, within?}
use Rattle.model.specs.Computed.Edges.{label?}
use Rattle.model.specs.Computed.Patterns.{keyed?}

module _ (k : ℕ) (l : List ℕ) where
  pub none_keyed : length l ≡ 0 → false ≡ keyed? k l
  unfolding keyed?
  none_keyed e = grind (arith, common_steps)

  pub too_long : k < length l → false ≡ keyed? k l
  unfolding keyed?
  too_long h = grind (arith, common_steps)

  -- else the labels decide
  pub labels_keyed : (length l ≡ 0 → ⊥) → length l ≤ k → list_all label? l ≡ keyed? k l
  unfolding keyed? all?
  labels_keyed a b =
      let fits : within? 1 k (length l) ≡ true = grind (arith, common_steps) in
      rw fits (same_from_clauses (list_all label?) (all? label?) (λ x t. label? x && t) refl (λ _ _. refl) (λ _ _. refl) l)
