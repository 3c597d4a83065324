-- The plain check (level search) of document 01: what its levels are, and what each reply says of them.
use Rattle.std.specs.Prelude.{List, ℕ, suc, ◌≤◌, ◌<◌, T}
use Rattle.model.specs.Lists.{◌∈◌, empty?}
use Rattle.model.specs.Edges.{Graph}
use Rattle.model.specs.Walks.{Runs}
use Rattle.model.specs.States.{Yes, No, Spent, state, IsState, Leads, Reply}
use Rattle.model.specs.Computed.Levels.{level}

-- z is in none of levels 1 to i
abbrev pub Fresh : Graph → List ℕ → ℕ → ℕ → ℕ → Type 0
Fresh g l s i z = (j : ℕ) → 1 ≤ j → j ≤ i → ¬ (z ∈ level g l s j)

-- z is in level i + 1
pub record Reached (g : Graph) (l : List ℕ) (s i z : ℕ) : Type 0 where
  pub is_state : IsState g l z
  pub fresh : Fresh g l s i z
  pub source : (x : ℕ) × (x ∈ level g l s i) × Leads g.edges l x z

-- none of levels 1 to c has (t, 0), and none is empty
abbrev pub Quiet : Graph → List ℕ → ℕ → ℕ → ℕ → Type 0
Quiet g l s t c = (j : ℕ) → 1 ≤ j → j ≤ c → (¬ (state t 0 ∈ level g l s j)) × (¬ T (empty? (level g l s j)))

-- what each reply to an allowance says
pub data Told (g : Graph) (l : List ℕ) (s t limit : ℕ) : Reply → Type 0 where
  found : (c : ℕ) → c < limit → Quiet g l s t c → state t 0 ∈ level g l s (suc c) → Told g l s t limit (Yes (suc c))
  ended : (c : ℕ) → c < limit → Quiet g l s t c → T (empty? (level g l s (suc c))) → Told g l s t limit (No (suc c))
  stopped : Quiet g l s t limit → Told g l s t limit (Spent limit)

-- the reply is yes and a walk from s to t runs l, or it is no and none does
pub data Decides (g : Graph) (l : List ℕ) (s t : ℕ) : Reply → Type 0 where
  runs : (c : ℕ) → Runs g l s t → Decides g l s t (Yes c)
  runs_not : (c : ℕ) → ¬ Runs g l s t → Decides g l s t (No c)
