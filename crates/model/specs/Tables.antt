-- Tables of marks, one for each vertex (document 02, Five: a place m counts, or it does not).
use Rattle.std.specs.Prelude.{◌≡◌, Bool, false, List, ℕ, ◌<◌, get_or}

-- mark v of the table says whether v passes the test, for each vertex
pub record Tabulates (vertices : ℕ) (table : List Bool) (test : ℕ → Bool) : Type 0 where
  pub each : (v : ℕ) → v < vertices → get_or table v false ≡ test v
