-- Slots of any width, by the laws of `Number`: a test of each slot tells of the list of their numbers.
use Rattle.std.proofs.Common.{◌≡◌, refl, ap, sym, ◌∙◌, Bool, true, false, not, cond, ◌&&◌, List, [], ◌∷◌, Option, Some, None, ℕ, ◌+◌, ◌≤◌, eqb, ltb, length, arith}
use Rattle.std.specs.List.{list_all, position_or_len}
use Rattle.std.specs.Option.{unwrap_or}
use Rattle.std.proofs.lemmas.Grind.{common_steps}
use Rattle.std.proofs.lemmas.List.Recursion.{same_from_clauses, is_position_or_len}
use Rattle.std.proofs.lemmas.List.Sums.{prefix_len-le-length}
use Rattle.model.specs.Edges.{standing}
use Rattle.model.specs.Computed.Edges.{zeros?}

length_unless : (stops : Bool) (x : ℕ) (xs : List ℕ) → length (cond stops [] (x ∷ xs)) ≡ cond stops 0 (1 + length xs)
length_unless true x xs = refl
length_unless false x xs = omega arith

module _ {A : Type 0} (value : A → ℕ) where
  abbrev pub zero_slot? : A → Bool
  zero_slot? x = eqb (value x) 0

  module _ (numbers : List A → List ℕ) (none : numbers [] ≡ []) (more : (x : A) (xs : List A) → numbers (x ∷ xs) ≡ value x ∷ numbers xs) where
    pub zeros_are : (xs : List A) → list_all zero_slot? xs ≡ zeros? (numbers xs)
    unfolding zeros?
    zeros_are =
        same_from_clauses (list_all zero_slot?) (λ xs. zeros? (numbers xs)) (λ x t. zero_slot? x && t)
        (sym (ap zeros? none))
        (λ x xs. refl)
        (λ x xs. ap zeros? (more x xs))

    pub standing_are : (xs : List A) → length (standing (numbers xs)) ≡ position_or_len zero_slot? xs
    unfolding standing
    standing_are =
        is_position_or_len (λ xs. length (standing (numbers xs))) zero_slot?
        (ap (λ l. length (standing l)) none)
        (λ x xs. ap (λ l. length (standing l)) (more x xs) ∙ length_unless (zero_slot? x) (value x) (standing (numbers xs)))

-- the place that `position` found, or the length
pub first_or_length : {A : Type 0} (test : A → Bool) (xs : List A) (r : Option ℕ)
    → r ≡ cond (ltb (position_or_len test xs) (length xs)) (Some (position_or_len test xs)) None → unwrap_or r (length xs) ≡ position_or_len test xs
first_or_length test xs r e =
    let within : position_or_len test xs ≤ length xs = prefix_len-le-length (λ x. not (test x)) xs in
    grind (arith, common_steps)
