-- Laws of tables of marks.
use mathlib.Core.Path.{◌≡◌, ◌∙◌}
use mathlib.Core.Bool.{Bool}
use mathlib.Core.List.{List}
use Prim.Native.Nat.{ℕ, ◌<◌}
use Rattle.model.specs.Tables.{Tabulates}

-- by a test that agrees for each vertex
pub tabulates_as : {vertices : ℕ} {table : List Bool} {f g : ℕ → Bool} → Tabulates vertices table f → ((v : ℕ) → v < vertices → f v ≡ g v)
    → Tabulates vertices table g
tabulates_as t e = record { each = λ v h. t.each v h ∙ e v h }
