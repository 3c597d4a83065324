-- Closing rows under steps.
use Rattle.std.specs.Prelude.{List, ◌↔◌, ◌≢◌, ℕ, ◌≤◌}
use Rattle.model.specs.Limits.{most_vertices}
use Rattle.model.specs.Build.Hubs.{Plus, Onward}
use Rattle.rows.specs.Region.{open_row, rest_row}
use Rattle.rows.specs.Rows.{On, KeepsRows, StepsTo, Domain}

-- row `rest` has every vertex that a second step follows
pub record Closable (w : List ℕ) (d : ℕ) : Type 0 where
  pub domain : Domain w d
  pub rest : (a : ℕ) → Onward (StepsTo w) a → On w rest_row a

-- each vertex steps to all that one step or more led to; the step rows change, and the row that closing uses
pub record Closes (w w' : List ℕ) : Type 0 where
  pub keeps : KeepsRows w w' (λ r. (most_vertices ≤ r) × (r ≢ open_row))
  pub is : (a b : ℕ) → StepsTo w' a b ↔ Plus (StepsTo w) a b
