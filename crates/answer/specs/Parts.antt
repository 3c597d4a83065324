-- An owner's list as a part of the index, and what the joining of two lists finds.
use Rattle.std.specs.Prelude.{◌≡◌, Bool, true, false, List, ℕ, ◌+◌, ◌*◌, ◌%◌, ◌≤◌, ◌<◌, length, get_or}
use Rattle.model.specs.Limits.{owner_unit, side_unit}
use Rattle.model.specs.Lists.{◌∈◌, Rising}
use Rattle.model.specs.Computed.Query.{code_of}
use Rattle.answer.specs.declared.Side.{Side}
use Rattle.answer.specs.declared.Side.TheVariants.{Out, In}

-- "Side is 0 for out, 1 for in."
abbrev pub side_number : Side → ℕ
side_number Out = 0
side_number In = 1

abbrev pub other_side : Side → Side
other_side Out = In
other_side In = Out

-- x is an entry from low on, below high
pub record Belongs (index : List ℕ) (low high x : ℕ) : Type 0 where
  pub stands : x ∈ index
  pub from : low ≤ x
  pub to : x < high

-- xs has them and no other, in their order
pub record Part (index : List ℕ) (low high : ℕ) (xs : List ℕ) : Type 0 where
  pub rises : Rising xs
  pub each : (x : ℕ) → x ∈ xs → Belongs index low high x
  pub all : (x : ℕ) → Belongs index low high x → x ∈ xs

-- the entries of a side, and of them an owner's list
abbrev pub SideOf : List ℕ → Side → List ℕ → Type 0
SideOf index side xs = Part index (side_number side * side_unit) (side_number side * side_unit + side_unit) xs

abbrev pub ListOf : List ℕ → Side → ℕ → List ℕ → Type 0
ListOf index side owner xs =
    Part index (side_number side * side_unit + owner * owner_unit) (side_number side * side_unit + owner * owner_unit + owner_unit) xs

-- hub and code of an entry, hub × hub_unit + code
abbrev pub low_of : ℕ → ℕ
low_of x = x % owner_unit

-- entries that rise by hub and code, as one owner's list does
pub record HubRising (xs : List ℕ) : Type 0 where
  pub rises : (p q : ℕ) → p < q → q < length xs → low_of (get_or xs p 0) < low_of (get_or xs q 0)

-- what the joining needs
pub record Joinable (out into : List ℕ) : Type 0 where
  pub out_rises : HubRising out
  pub into_rises : HubRising into

-- slot p of one list and slot q of the other have one hub, with the code
pub record Match (out into : List ℕ) (code p q : ℕ) : Type 0 where
  pub same : low_of (get_or out p 0) ≡ low_of (get_or into q 0)
  pub coded : code_of (get_or out p 0) ≡ code

-- some do
pub record Shared (out into : List ℕ) (code : ℕ) : Type 0 where
  pub p : ℕ
  pub q : ℕ
  pub p_inside : p < length out
  pub q_inside : q < length into
  pub match : Match out into code p q

-- what the joining finds
pub record Joins (out into : List ℕ) (code : ℕ) (found : Bool) : Type 0 where
  pub yields : found ≡ true → Shared out into code
  pub misses : found ≡ false → ¬ Shared out into code
