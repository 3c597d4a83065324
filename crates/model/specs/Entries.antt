-- What the index contains (document 01), for any order of the vertices.
use Rattle.std.specs.Prelude.{◌≡◌, ◌≢◌, List, ℕ, ◌+◌, ◌*◌, ◌≤◌, ◌<◌}
use Rattle.model.specs.Limits.{hub_unit, owner_unit, side_unit}
use Rattle.model.specs.Edges.{Graph}
use Rattle.model.specs.Patterns.{Pattern, code}
use Rattle.model.specs.Walks.{Stop}
use Rattle.model.specs.Order.{rank}

-- "let u be the place earliest in access order among all stops of all such walks"
pub record Earliest (g : Graph) (order l : List ℕ) (s t u : ℕ) : Type 0 where
  pub stop : Stop g l s t u
  pub least : (v : ℕ) → Stop g l s t v → rank order u ≤ rank order v

-- "side × 2^32 + owner × 2^24 + hub × 2^16 + code"
abbrev pub entry_of : ℕ → ℕ → ℕ → ℕ → ℕ
entry_of side owner hub code = side * side_unit + owner * owner_unit + hub * hub_unit + code

-- "Side is 0 for out, 1 for in."
abbrev pub out_entry : ℕ → ℕ → List ℕ → ℕ
out_entry owner hub l = entry_of 0 owner hub (code l)

abbrev pub in_entry : ℕ → ℕ → List ℕ → ℕ
in_entry owner hub l = entry_of 1 owner hub (code l)

-- "For every L of at most k colours that is its own minimum repeat, and every s and t"
pub record Asked (g : Graph) (l : List ℕ) (s t : ℕ) : Type 0 where
  pub from : s < g.vertices
  pub to : t < g.vertices
  pub pattern : Pattern g.longest l

-- "If u is t, the out list of s has (t, L). If u is s and not t, the in list of t has (s, L). Otherwise the pair adds nothing."
pub data IsEntry (g : Graph) (order : List ℕ) (e : ℕ) : Type 0 where
  out : (s t : ℕ) (l : List ℕ) → Asked g l s t → Earliest g order l s t t → e ≡ out_entry s t l → IsEntry g order e
  into : (s t : ℕ) (l : List ℕ) → Asked g l s t → Earliest g order l s t s → s ≢ t → e ≡ in_entry t s l → IsEntry g order e
