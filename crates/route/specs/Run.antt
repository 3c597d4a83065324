-- The route that is lit.
use Rattle.std.specs.Prelude.{◌≡◌, Option, Result, List, ℕ}
use Rattle.model.specs.Lists.{zeroed}
use Rattle.model.specs.Edges.{Graph}
use Rattle.model.specs.Computed.Routes.{route_of}
use Rattle.model.specs.declared.Refusal.{Refusal}
use Rattle.route_walk.specs.Walk.{Lights}

-- the search's contract: the route is lit, and work memory ends zero
pub record Shows (g : Graph) (l : List ℕ) (s t : ℕ) (walk work : List ℕ) (r : Result (Option ℕ) Refusal) (walk' work' : List ℕ) : Type 0 where
  pub lights : Lights (route_of g l s t) walk walk' r
  pub work_after : work' ≡ zeroed work
