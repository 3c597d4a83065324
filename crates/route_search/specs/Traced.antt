-- The walk that the queue gives from a place back to the start.
use Rattle.std.specs.Prelude.{◌≡◌, Option, None, Some, List, [], ◌∷◌, reverse, ℕ, ◌≤◌, ◌<◌, length}
use Rattle.model.specs.Limits.{least_work}
use Rattle.model.specs.Edges.{Graph}
use Rattle.model.specs.Walks.{Runs}
use Rattle.model.specs.Routes.{Route}
use Rattle.model.specs.Computed.Levels.{most_states}
use Rattle.route_search.specs.Work.{state_unit, queued_at, queued_number}

-- the edges from place k back to the start, the last one first
pub data Chain (w : List ℕ) : ℕ → List ℕ → Type 0 where
  done : Chain w 0 []
  link : {k before x edge : ℕ} {p : List ℕ} → before < k → x < most_states → edge < state_unit → queued_at w k ≡ queued_number before x edge → Chain w before p
      → Chain w k (edge ∷ p)

-- the route's last state stands at a place
pub record TracedTo (g : Graph) (l : List ℕ) (s t : ℕ) (w : List ℕ) (place : ℕ) : Type 0 where
  pub positive : 1 ≤ place
  pub small : place ≤ most_states
  pub walk : List ℕ
  pub chain : Chain w place walk
  pub route : Route g l s t (reverse walk)

abbrev pub FoundAt : Graph → List ℕ → (s t : ℕ) → List ℕ → Option ℕ → Type 0
FoundAt g l s t w None = ¬ Runs g l s t
FoundAt g l s t w (Some place) = TracedTo g l s t w place

-- the place of the route's last state, if there is a route
pub record Traced (g : Graph) (l : List ℕ) (s t : ℕ) (w : List ℕ) (place : Option ℕ) : Type 0 where
  pub long : least_work ≤ length w
  pub found : FoundAt g l s t w place
