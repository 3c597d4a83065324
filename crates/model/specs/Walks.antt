-- Walks, the patterns that they run, and their stops (document 01, "Patterns and walks").
use Rattle.std.specs.Prelude.{List, [], ◌∷◌, ℕ, ◌<◌}
use Rattle.model.specs.Lists.{◌∈◌}
use Rattle.model.specs.Edges.{Graph, edge_number}

-- an edge (leg) with label (colour) c from vertex a to vertex b
pub record Edge (g : Graph) (a c b : ℕ) : Type 0 where
  pub from : a < g.vertices
  pub to : b < g.vertices
  pub stands : edge_number a c b ∈ g.edges

-- edges from s to t, "each starting where the last ended", whose labels spell the word. The empty word stands still, which is no walk
pub data Spells (g : Graph) : ℕ → List ℕ → ℕ → Type 0 where
  here : {a : ℕ} → Spells g a [] a
  edge : {a c b t : ℕ} {w : List ℕ} → Edge g a c b → Spells g b w t → Spells g a (c ∷ w) t

-- a walk from s to t that runs l: "its colours spell L one or more whole times"
pub data Runs (g : Graph) (l : List ℕ) : ℕ → ℕ → Type 0 where
  once : {s t : ℕ} → Spells g s l t → Runs g l s t
  more : {s m t : ℕ} → Spells g s l m → Runs g l m t → Runs g l s t

-- "Its stops are its start and every place where a whole L has just ended."
unfoldable pub stops : {g : Graph} {l : List ℕ} {s t : ℕ} → Runs g l s t → List ℕ
stops (once {s = s} {t = t} p) = s ∷ t ∷ []
stops (more {s = s} p r) = s ∷ stops r

-- u is a stop of some walk from s to t that runs l
pub record Stop (g : Graph) (l : List ℕ) (s t u : ℕ) : Type 0 where
  pub walk : Runs g l s t
  pub among : u ∈ stops walk
