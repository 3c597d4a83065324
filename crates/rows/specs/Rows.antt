-- Sets of vertices as rows of bits in work memory: bit j of row r says whether vertex j is in it.
use Rattle.std.specs.Prelude.{◌≡◌, List, ◌≢◌, ℕ, ◌+◌, ◌*◌, ◌/◌, ◌%◌, ◌^◌, ◌≤◌, ◌<◌, length, get_or, Option, None, Some}
use Rattle.model.specs.Limits.{most_vertices, least_work}
use Rattle.rows.specs.Region.{row_numbers, work_rows, child_rows, open_row}

-- bit j of row r
unfoldable pub cell : List ℕ → ℕ → ℕ → ℕ
cell w r j = get_or w (r * row_numbers + j / 64) 0 / 2 ^ (j % 64) % 2

-- vertex j is in row r
abbrev pub On : List ℕ → ℕ → ℕ → Type 0
On w r j = cell w r j ≡ 1

-- work memory has row r
pub record Has (w : List ℕ) (r : ℕ) : Type 0 where
  pub row : r < work_rows
  pub long : least_work ≤ length w

-- row r is the vertices of P
pub record Row (w : List ℕ) (r : ℕ) (P : ℕ → Type 0) : Type 0 where
  pub only : (j : ℕ) → j < most_vertices → On w r j → P j
  pub all : (j : ℕ) → j < most_vertices → P j → On w r j

-- from w to w' the rows of K are kept, and the length. (Numbers behind the last row of work memory count as rows too.)
pub record KeepsRows (w w' : List ℕ) (K : ℕ → Type 0) : Type 0 where
  pub len : length w' ≡ length w
  pub same : (k : ℕ) → K (k / row_numbers) → get_or w' k 0 ≡ get_or w k 0

-- row r is one of those from low up to high
pub record InRows (low high r : ℕ) : Type 0 where
  pub least : low ≤ r
  pub most : r < high

-- the n rows from base on are empty
pub record Empty (w : List ℕ) (base n : ℕ) : Type 0 where
  pub none : (r j : ℕ) → InRows base (base + n) r → j < most_vertices → On w r j → ⊥

-- w' is w with row r made the vertices of P, and nothing else changed
pub record Becomes (w w' : List ℕ) (r : ℕ) (P : ℕ → Type 0) : Type 0 where
  pub keeps : KeepsRows w w' (λ q. q ≢ r)
  pub row : Row w' r P

-- q is the first vertex of row r from p on
pub record FirstFrom (w : List ℕ) (r p q : ℕ) : Type 0 where
  pub low : p ≤ q
  pub high : q < most_vertices
  pub gap : (j : ℕ) → p ≤ j → j < q → On w r j → ⊥
  pub here : On w r q

-- row r has no vertex from p on
pub record NoneFrom (w : List ℕ) (r p : ℕ) : Type 0 where
  pub gap : (j : ℕ) → p ≤ j → j < most_vertices → On w r j → ⊥

-- the first vertex of row r from p on, if there is one
abbrev pub NextVertex : List ℕ → ℕ → ℕ → Option ℕ → Type 0
NextVertex w r p None = NoneFrom w r p
NextVertex w r p (Some q) = FirstFrom w r p q

-- q is the first vertex that is both in row a and in row b
pub record FirstShared (w : List ℕ) (a b q : ℕ) : Type 0 where
  pub high : q < most_vertices
  pub gap : (j : ℕ) → j < q → On w a j → On w b j → ⊥
  pub here : On w a q × On w b q

-- no vertex is both in row a and in row b
pub record NoneShared (w : List ℕ) (a b : ℕ) : Type 0 where
  pub gap : (j : ℕ) → j < most_vertices → On w a j → On w b j → ⊥

-- the first vertex that is both in row a and in row b, if there is one
abbrev pub FirstInBoth : List ℕ → ℕ → ℕ → Option ℕ → Type 0
FirstInBoth w a b None = NoneShared w a b
FirstInBoth w a b (Some q) = FirstShared w a b q

-- ---- the step rows

-- vertex a steps to vertex b: b is in row a
pub record StepsTo (w : List ℕ) (a b : ℕ) : Type 0 where
  pub from : a < most_vertices
  pub to : b < most_vertices
  pub on : On w a b

-- row d, one of the child rows, has every vertex that steps anywhere
pub record Domain (w : List ℕ) (d : ℕ) : Type 0 where
  pub long : least_work ≤ length w
  pub least : child_rows ≤ d
  pub most : d < open_row
  pub starts : (a b : ℕ) → StepsTo w a b → On w d a
