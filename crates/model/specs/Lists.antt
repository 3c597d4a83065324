-- Lists as document 01's words use them: membership, what passes a test, ranges, rising order, and zeros behind.
use Rattle.std.specs.Prelude.{◌≡◌, Bool, true, false, ◌||◌, ℕ, zero, suc, ◌-◌, ◌<◌, eqb, length, replicate}
use mathlib.Core.List.{List, [], ◌∷◌, ◌++◌, Memᴰ}

infix 50 ◌∈◌
abbrev pub ◌∈◌ : ℕ → List ℕ → Type 0
x ∈ l = Memᴰ x l

module _ {A : Type 0} where
  -- some element passes the test
  unfoldable pub any? : (A → Bool) → List A → Bool
  any? f [] = false
  any? f (x ∷ l) = f x || any? f l

  abbrev pub put : Bool → A → List A → List A
  put true x l = x ∷ l
  put false x l = l

  -- the elements that pass a test, in their order
  unfoldable pub keep : (A → Bool) → List A → List A
  keep f [] = []
  keep f (x ∷ l) = put (f x) x (keep f l)

abbrev pub mem? : ℕ → List ℕ → Bool
mem? x l = any? (λ z. eqb x z) l

abbrev pub empty? : List ℕ → Bool
empty? [] = true
empty? (x ∷ l) = false

-- the m numbers from a on, and those below n
unfoldable pub from : ℕ → ℕ → List ℕ
from a zero = []
from a (suc m) = a ∷ from (suc a) m

abbrev pub up_to : ℕ → List ℕ
up_to n = from 0 n

-- each element stands in R to all that follow it
pub data Sorted {A : Type 0} (R : A → A → Type 0) : List A → Type 0 where
  none : Sorted R []
  next : {x : A} {l : List A} → ((z : A) → Memᴰ z l → R x z) → Sorted R l → Sorted R (x ∷ l)

-- "strictly rising"
abbrev pub Rising : List ℕ → Type 0
Rising l = Sorted ◌<◌ l

-- "then zeros": those numbers, and zeros behind them, m slots in all
abbrev pub filled : ℕ → List ℕ → List ℕ
filled m l = l ++ replicate (m - length l) 0

-- memory that holds rising numbers of P, and zeros in its other slots
pub record Padded (P : ℕ → Type 0) (memory : List ℕ) : Type 0 where
  pub numbers : List ℕ
  pub rises : Rising numbers
  pub each : (x : ℕ) → x ∈ numbers → P x
  pub zeros : memory ≡ filled (length memory) numbers

-- bytes: numbers below 256
abbrev pub Bytes : List ℕ → Type 0
Bytes l = (x : ℕ) → x ∈ l → x < 256

-- a memory of the same length that is all zero
abbrev pub zeroed : List ℕ → List ℕ
zeroed l = replicate (length l) 0
