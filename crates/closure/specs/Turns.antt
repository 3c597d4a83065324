-- The closing of one row, and a turn of it. A vertex is open while its row has not been looked at.
use Rattle.std.specs.Prelude.{◌≡◌, List, ◌⊎◌, ◌↔◌, ◌≢◌, ℕ, ◌<◌}
use Rattle.model.specs.Limits.{most_vertices}
use Rattle.model.specs.Build.Hubs.{Plus}
use Rattle.rows.specs.Region.{open_row}
use Rattle.rows.specs.Rows.{On, KeepsRows, StepsTo, Domain}

-- row a has every step of its vertices
pub record WholeRow (w : List ℕ) (a : ℕ) : Type 0 where
  pub through : (m b : ℕ) → StepsTo w a m → StepsTo w m b → StepsTo w a b

-- the rows before row a are whole
pub record RowClosable (w : List ℕ) (d a : ℕ) : Type 0 where
  pub domain : Domain w d
  pub row : a < most_vertices
  pub whole : (x : ℕ) → x < a → WholeRow w x

-- the rows that the closing of row a keeps
abbrev pub Beside : ℕ → ℕ → Type 0
Beside a r = (r ≢ a) × (r ≢ open_row)

-- row a has become all that one step or more led to from a
pub record ClosesRow (w w' : List ℕ) (a : ℕ) : Type 0 where
  pub keeps : KeepsRows w w' (Beside a)
  pub is : (b : ℕ) → StepsTo w' a b ↔ Plus (StepsTo w) a b

-- row p is merged into row a, and p is open no more; nor need a vertex of row p be, if p is before a
pub record TakesIn (w w' : List ℕ) (a p : ℕ) : Type 0 where
  pub keeps : KeepsRows w w' (Beside a)
  pub is : (b : ℕ) → StepsTo w' a b ↔ (StepsTo w a b ⊎ StepsTo w p b)
  pub gone : On w' open_row p → ⊥
  pub less : (x : ℕ) → x < most_vertices → On w' open_row x → On w open_row x
  pub left : (x : ℕ) → x < most_vertices → On w open_row x → On w' open_row x ⊎ ((x ≡ p) ⊎ ((p < a) × On w p x))
