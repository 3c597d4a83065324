-- Work memory of the level search: numbers 0 to 1,023 hold 1 at each state that is in levels 1 to i, and from number 1,024 on stand the
-- states in the order in which they were reached, the start first.
use Rattle.std.specs.Prelude.{◌≡◌, Bool, true, false, List, [], ◌∷◌, ◌⊎◌, ℕ, ◌+◌, ◌*◌, ◌≤◌, ◌<◌, length, get_or, take, eqb}
use Rattle.model.specs.Limits.{most_vertices, least_work}
use Rattle.model.specs.States.{Leads}
use Rattle.model.specs.Computed.Levels.{most_states}

abbrev pub one : Bool → ℕ
one true = 1
one false = 0

-- how many of the numbers are 1
unfoldable pub ones : List ℕ → ℕ
ones [] = 0
ones (x ∷ xs) = one (eqb x 1) + ones xs

-- how many states are marked
unfoldable pub marks : List ℕ → ℕ
marks w = ones (take most_states w)

-- the k-th state reached
abbrev pub queue : List ℕ → ℕ → ℕ
queue w k = get_or w (most_states + k) 0

-- work memory is long enough, and as many states are queued as are marked, and the start
pub record Room (w : List ℕ) (n : ℕ) : Type 0 where
  pub long : least_work ≤ length w
  pub count : n ≡ marks w + 1

-- work memory is long enough, and no state is marked
pub record Unmarked (w : List ℕ) : Type 0 where
  pub long : least_work ≤ length w
  pub zeros : (y : ℕ) → y < most_states → get_or w y 0 ≡ 0

-- the slot of the queue, from n up to n', at which y stands
pub record At (w : List ℕ) (n n' y : ℕ) : Type 0 where
  pub k : ℕ
  pub from : n ≤ k
  pub to : k < n'
  pub is : queue w k ≡ y

-- w, with n states queued, has grown to w' with n' by just the states of P: those that were not marked are queued, and all are marked
pub record Grown (w : List ℕ) (n : ℕ) (w' : List ℕ) (n' : ℕ) (P : ℕ → Type 0) : Type 0 where
  pub len : length w' ≡ length w
  pub more : n ≤ n'
  pub room : Room w n → Room w' n'
  pub kept : (k : ℕ) → k < n → queue w' k ≡ queue w k
  pub still : (y : ℕ) → y < most_states → get_or w y 0 ≡ 1 → get_or w' y 0 ≡ 1
  pub marked : (y : ℕ) → y < most_states → P y → get_or w' y 0 ≡ 1
  pub only : (y : ℕ) → y < most_states → get_or w' y 0 ≡ 1 → (get_or w y 0 ≡ 1) ⊎ P y
  pub small : (k : ℕ) → n ≤ k → k < n' → queue w' k < most_states
  pub new : (k : ℕ) → n ≤ k → k < n' → get_or w (queue w' k) 0 ≡ 1 → ⊥
  pub by : (k : ℕ) → n ≤ k → k < n' → P (queue w' k)
  pub found : (y : ℕ) → y < most_states → P y → (get_or w y 0 ≡ 1 → ⊥) → At w' n n' y

-- y is led to from a state that stands in the queue from lo up to hi
pub record LedTo (edges l w : List ℕ) (lo hi y : ℕ) : Type 0 where
  pub k : ℕ
  pub from : lo ≤ k
  pub to : k < hi
  pub led : Leads edges l (queue w k) y

-- the states in the queue from lo up to hi have positions in the pattern
abbrev pub Fit : List ℕ → List ℕ → ℕ → ℕ → Type 0
Fit l w lo hi = (k : ℕ) → lo ≤ k → k < hi → queue w k < length l * most_vertices
