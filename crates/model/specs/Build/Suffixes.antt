-- Patterns by their suffixes: what holds of patterns with one label before a word, and of those with more.
use Rattle.std.specs.Prelude.{List, ◌∷◌, ◌++◌, ℕ, suc, ◌<◌}
use Rattle.model.specs.Patterns.{Pattern}

-- F holds of a pattern of at most k labels and of e
pub record With (k : ℕ) (F : List ℕ → ℕ → Type 0) (l : List ℕ) (e : ℕ) : Type 0 where
  pub pattern : Pattern k l
  pub holds : F l e

-- and the pattern has one label or more before the word
pub record Beyond (k : ℕ) (F : List ℕ → ℕ → Type 0) (w : List ℕ) (e : ℕ) : Type 0 where
  pub front : List ℕ
  pub label : ℕ
  pub within : With k F (front ++ (label ∷ w)) e

-- one label, suc c, before the word; and more than that one
abbrev pub Leaf : ℕ → (List ℕ → ℕ → Type 0) → List ℕ → ℕ → ℕ → Type 0
Leaf k F w c e = With k F (suc c ∷ w) e

abbrev pub Branch : ℕ → (List ℕ → ℕ → Type 0) → List ℕ → ℕ → ℕ → Type 0
Branch k F w c e = Beyond k F (suc c ∷ w) e

-- G c e for some c below n
pub record Some (n : ℕ) (G : ℕ → ℕ → Type 0) (e : ℕ) : Type 0 where
  pub which : ℕ
  pub small : which < n
  pub holds : G which e
