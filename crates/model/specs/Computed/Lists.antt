-- Lists as what computes uses them: tests, what stands in each of several lists, and where a key belongs.
use Rattle.std.specs.Prelude.{Bool, true, false, ◌&&◌, cond, List, [], ◌∷◌, ◌++◌, ℕ, suc, ◌≤◌, ◌<◌, eqb, ltb, leb, length, get_or}

-- every element passes the test
unfoldable pub all? : {A : Type 0} → (A → Bool) → List A → Bool
all? f [] = true
all? f (x ∷ l) = f x && all? f l

-- the two lists are the same
abbrev pub same? : List ℕ → List ℕ → Bool
same? [] [] = true
same? [] (d ∷ m) = false
same? (c ∷ l) [] = false
same? (c ∷ l) (d ∷ m) = eqb c d && same? l m

-- low ≤ x ≤ high
abbrev pub within? : ℕ → ℕ → ℕ → Bool
within? low high x = leb low x && leb x high

-- each element of each list f x
unfoldable pub spread : {A B : Type 0} → (A → List B) → List A → List B
spread f [] = []
spread f (x ∷ l) = f x ++ spread f l

-- the first slot whose number is not below key
unfoldable pub lower_bound : ℕ → List ℕ → ℕ
lower_bound key [] = 0
lower_bound key (x ∷ xs) = let more = suc (lower_bound key xs) in cond (ltb x key) more 0

-- the numbers before slot lo are below key, and those from slot hi on are not
pub record Bracket (xs : List ℕ) (key lo hi : ℕ) : Type 0 where
  pub met : lo ≤ hi
  pub most : hi ≤ length xs
  pub under : (i : ℕ) → i < lo → get_or xs i 0 < key
  pub above : (i : ℕ) → hi ≤ i → i < length xs → key ≤ get_or xs i 0
