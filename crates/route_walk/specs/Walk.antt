-- The walk back from a place, counted and written.
use Rattle.std.specs.Prelude.{◌≡◌, Option, Some, None, Result, List, [], ◌++◌, reverse, ℕ, ◌≤◌, length, drop}
use Rattle.model.specs.Limits.{least_work}
use Rattle.model.specs.Replies.{routed_of}
use Rattle.model.specs.Computed.Levels.{most_states}
use Rattle.model.specs.declared.Refusal.{Refusal}
use Rattle.calls.specs.Call.{Memory}
use Rattle.calls.specs.Route.{lighting}
use Rattle.route_search.specs.Traced.{Chain}

-- there is a walk back from the place, of one edge at least
pub record Linked (w : List ℕ) (place : ℕ) : Type 0 where
  pub long : least_work ≤ length w
  pub positive : 1 ≤ place
  pub small : place ≤ most_states
  pub walk : List ℕ
  pub chain : Chain w place walk

-- the number of its edges
pub record CountsLinks (w : List ℕ) (place n : ℕ) : Type 0 where
  pub is : (p : List ℕ) → Chain w place p → n ≡ length p
  pub small : n ≤ most_states

-- and its edges written in running order, with what stood behind them
pub record WritesWalk (w : List ℕ) (place : ℕ) (walk walk' : List ℕ) : Type 0 where
  pub is : (p : List ℕ) → Chain w place p → walk' ≡ reverse p ++ drop (length p) walk

-- the reply and walk memory are those of the call, whatever else is lent, for the edges es
pub record Lights (es walk walk' : List ℕ) (r : Result (Option ℕ) Refusal) : Type 0 where
  pub is : (m : Memory) → m.output ≡ walk → (routed_of r ≡ (lighting es m).reply) × (walk' ≡ (lighting es m).memory.output)

-- the same for the walk back from a place, if there is one
abbrev pub LightsAt : List ℕ → Option ℕ → (walk walk' : List ℕ) → Result (Option ℕ) Refusal → Type 0
LightsAt w None walk walk' r = Lights [] walk walk' r
LightsAt w (Some place) walk walk' r = (p : List ℕ) → Chain w place p → Lights (reverse p) walk walk' r
