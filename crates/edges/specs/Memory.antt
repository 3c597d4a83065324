-- What the functions over edge memory find in it and need of it.
use Rattle.std.specs.Prelude.{◌≡◌, cond, List, ℕ, ◌<◌, length, get_or, ltb, eqb, Option, Some, None, Result, Ok, Err}
use Rattle.model.specs.Lists.{filled}
use Rattle.model.specs.Edges.{standing}
use Rattle.model.specs.Computed.Lists.{lower_bound}
use Rattle.model.specs.Computed.Edges.{edge_memory?}

-- check 3: the number of standing edges, or that this is no edge memory of the graph
unfoldable pub scan_of : ℕ → List ℕ → Option ℕ
scan_of vertices xs = cond (edge_memory? vertices xs) (Some (length (standing xs))) None

-- where x stands among rising numbers, or before which slot it would be put
unfoldable pub find_of : ℕ → List ℕ → Result ℕ ℕ
find_of x ys =
    cond (ltb (lower_bound x ys) (length ys)) (cond (eqb (get_or ys (lower_bound x ys) 0) x) (Ok (lower_bound x ys)) (Err (lower_bound x ys))) (Err (lower_bound x ys))

-- edge memory with n standing edges, and zeros behind them
pub record Holds (xs : List ℕ) (n : ℕ) : Type 0 where
  pub count : n ≡ length (standing xs)
  pub zeros : xs ≡ filled (length xs) (standing xs)

-- edge x belongs before slot `at` of the edges that stand, and there is room
pub record Insertable (xs : List ℕ) (at x : ℕ) : Type 0 where
  pub zeros : xs ≡ filled (length xs) (standing xs)
  pub place : at ≡ lower_bound x (standing xs)
  pub room : length (standing xs) < length xs

-- an edge stands at slot `at`, where it belongs
pub record Removable (xs : List ℕ) (at : ℕ) : Type 0 where
  pub zeros : xs ≡ filled (length xs) (standing xs)
  pub place : at ≡ lower_bound (get_or xs at 0) (standing xs)
  pub inside : at < length (standing xs)
