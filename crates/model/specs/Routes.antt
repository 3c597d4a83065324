-- The route to light (document 02, Three): which walk it is (a shortest one, and of these the lexicographically first), and the replies of its call.
use Rattle.std.specs.Prelude.{◌≡◌, List, [], ◌∷◌, ℕ, suc, ◌≤◌, ◌<◌, length}
use Rattle.model.specs.Edges.{Graph, edge_number}
use Rattle.model.specs.Patterns.{times}
use Rattle.model.specs.Walks.{Edge}

-- edges from s to t, each starting where the last ended, whose labels spell the word; and their numbers in running order
pub data Walked (g : Graph) : ℕ → List ℕ → List ℕ → ℕ → Type 0 where
  here : {a : ℕ} → Walked g a [] [] a
  edge : {a c b t : ℕ} {w es : List ℕ} → Edge g a c b → Walked g b w es t → Walked g a (c ∷ w) (edge_number a c b ∷ es) t

-- es are the edges of "a walk .. that runs the keyed pattern from start to destination"
pub record Candidate (g : Graph) (l : List ℕ) (s t : ℕ) (es : List ℕ) : Type 0 where
  pub more : ℕ
  pub walk : Walked g s (times (suc more) l) es t

-- of two lists of one length the first is no later, "compared leg by leg from the start" (lexicographic order)
infix 50 ◌⊑◌
pub data ◌⊑◌ : List ℕ → List ℕ → Type 0 where
  both : [] ⊑ []
  lower : {x y : ℕ} {l m : List ℕ} → x < y → (x ∷ l) ⊑ (y ∷ m)
  equal : {x y : ℕ} {l m : List ℕ} → x ≡ y → l ⊑ m → (x ∷ l) ⊑ (y ∷ m)

-- "a walk with the fewest legs"; "Among equals take the one whose leg numbers .. come first."
pub record Route (g : Graph) (l : List ℕ) (s t : ℕ) (es : List ℕ) : Type 0 where
  pub runs : Candidate g l s t es
  pub fewest : (fs : List ℕ) → Candidate g l s t fs → length es ≤ length fs
  pub first : (fs : List ℕ) → Candidate g l s t fs → length es ≡ length fs → es ⊑ fs

-- yes with "the number of legs", no, refused with a number
pub data Routed : Type 0 where
  Yes Refused : ℕ → Routed
  No : Routed
