-- Text written into lent bytes.
use Rattle.std.specs.Prelude.{◌≡◌, List, ◌++◌, ℕ, ◌+◌, length, take, drop}

-- out' is out with the text from `at` on, and r is where the text ends
pub record Puts (out : List ℕ) (at : ℕ) (text out' : List ℕ) (r : ℕ) : Type 0 where
  pub end : r ≡ at + length text
  pub bytes : out' ≡ take at out ++ (text ++ drop r out)
