-- What check 12 keeps as it goes over index memory.
use Rattle.std.specs.Prelude.{◌≡◌, Bool, true, false, cond, List, ℕ, ◌+◌, ◌*◌, ◌/◌, ◌%◌, ◌≤◌, ◌<◌, length, get_or, drop}
use Rattle.model.specs.Limits.{most_vertices, owner_unit}
use Rattle.model.specs.Computed.Edges.{zeros?}
use Rattle.model.specs.Computed.Query.{side_of, owner_of, hub_of, code?, entry?}
use Rattle.scan.specs.Memory.{scan_from}
use Rattle.std.specs.Prelude.{Option, Some, None}
use Rattle.scan.specs.declared.Exit.{Exit}
use Rattle.scan.specs.declared.Exit.TheVariants.{Rest, Untested, Stray}

-- how many slots there are for codes that have passed, the multiplier of their hash, and the slot of a code
abbrev pub slots : ℕ
slots = 8192

abbrev pub multiplier : ℕ
multiplier = 1040391

abbrev pub slot_of : ℕ → ℕ
slot_of c = c * multiplier / slots % slots

-- what is found in its slot is a code
pub record Seen (longest : ℕ) (seen : List ℕ) : Type 0 where
  pub long : length seen ≡ slots
  pub right : (c : ℕ) → get_or seen (slot_of c) 0 ≡ c → code? longest c ≡ true

-- whether x is an entry, and what is seen then
pub record Examines (vertices longest x : ℕ) (seen' : List ℕ) (r : Bool) : Type 0 where
  pub is : r ≡ entry? vertices longest x
  pub seen : Seen longest seen'

-- the vertices among the numbers of a field are those below r
pub record FieldEnd (vertices r : ℕ) : Type 0 where
  pub small : r ≤ most_vertices
  pub most : r ≤ vertices
  pub least : (v : ℕ) → v < most_vertices → v < vertices → v < r

-- side and owner are right from x on, below end
pub record Within (vertices x end : ℕ) : Type 0 where
  pub side : (y : ℕ) → x ≤ y → y < end → side_of y < 2
  pub owner : (y : ℕ) → x ≤ y → y < end → owner_of y < vertices

-- the hub is right if hub and code are below hubs, and else this is no entry
pub record HubsBelow (vertices hubs : ℕ) : Type 0 where
  pub right : (x : ℕ) → x % owner_unit < hubs → hub_of x < vertices
  pub wrong : (x : ℕ) → hubs ≤ x % owner_unit → (longest : ℕ) → entry? vertices longest x ≡ false

-- what check 12 finds, by how its fast loop is left
abbrev pub extent_at : ℕ → ℕ → List ℕ → Exit → Option ℕ
extent_at vertices longest index (Rest at) = cond (zeros? (drop at index)) (Some at) None
extent_at vertices longest index (Untested at) =
    cond (entry? vertices longest (get_or index at 0)) (scan_from vertices longest (get_or index at 0) (at + 1) (drop (at + 1) index)) None
extent_at vertices longest index Stray = None

-- the slot at which it is left is one of the memory, and an untested entry is none of those before `from`
abbrev pub ExitSlot : List ℕ → ℕ → Exit → Type 0
ExitSlot index from (Rest at) = at ≤ length index
ExitSlot index from (Untested at) = (from ≤ at) × (at < length index)
ExitSlot index from Stray = from ≤ length index

-- the exit says what the slots from `from` on say, whatever graph the codes, `end` and `hubs` are of
pub record Skims (index : List ℕ) (from prev end hubs : ℕ) (seen : List ℕ) (r : Exit) : Type 0 where
  pub slot : ExitSlot index from r
  pub same :
      (vertices longest : ℕ) → Seen longest seen → Within vertices prev end → HubsBelow vertices hubs
      → scan_from vertices longest prev from (drop from index) ≡ extent_at vertices longest index r
