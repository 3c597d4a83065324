-- What the checks of an insertion and a removal hand on.
use Rattle.std.specs.Prelude.{◌≡◌, Result, Ok, Err, ℕ, length, get_or, take}
use Rattle.model.specs.Edges.{edge_number, standing}
use Rattle.model.specs.Replies.{number_of}
use Rattle.model.specs.declared.Edge.{Edge}
use Rattle.model.specs.declared.Refusal.{Refusal}
use Rattle.edges.specs.Memory.{find_of, Insertable, Removable}
use Rattle.calls.specs.Call.{Size, Memory}
use Rattle.calls.specs.Change.{change_refusal, insert_refusal, remove_refusal}
use Rattle.named.specs.declared.Lookup.{Lookup}
use Rattle.named.specs.declared.Place.{Place}

-- the checks 1 to 6 have passed, and n edges stand
pub record Passes (size : Size) (from label to : ℕ) (m : Memory) (n : ℕ) : Type 0 where
  pub is : change_refusal size from label to m ≡ 0
  pub count : n ≡ length (standing m.edges)

abbrev pub Changes : Size → Edge → Memory → Result ℕ Refusal → Type 0
Changes size e m (Ok n) = Passes size e.from e.label e.to m n
Changes size e m (Err r) = change_refusal size e.from e.label e.to m ≡ number_of r

-- and the named edge is looked up among them
pub record Finds (size : Size) (from label to : ℕ) (m : Memory) (n : ℕ) (found : Result ℕ ℕ) : Type 0 where
  pub passes : Passes size from label to m n
  pub is : find_of (edge_number from label to) (take n m.edges) ≡ found

abbrev pub LooksUp : Size → Edge → Memory → Result Lookup Refusal → Type 0
LooksUp size e m (Ok l) = Finds size e.from e.label e.to m l.standing l.found
LooksUp size e m (Err r) = change_refusal size e.from e.label e.to m ≡ number_of r

-- all checks have passed, n edges stand, and the edge belongs before slot `at`
pub record Places (size : Size) (from label to : ℕ) (m : Memory) (n at : ℕ) : Type 0 where
  pub is : insert_refusal size from label to m ≡ 0
  pub passes : Passes size from label to m n
  pub place : Insertable m.edges at (edge_number from label to)

abbrev pub Inserts : Size → Edge → Memory → Result Place Refusal → Type 0
Inserts size e m (Ok p) = Places size e.from e.label e.to m p.standing p.slot
Inserts size e m (Err r) = insert_refusal size e.from e.label e.to m ≡ number_of r

-- all checks have passed, n edges stand, and the edge stands at slot `at`
pub record Takes (size : Size) (from label to : ℕ) (m : Memory) (n at : ℕ) : Type 0 where
  pub is : remove_refusal size from label to m ≡ 0
  pub passes : Passes size from label to m n
  pub place : Removable m.edges at
  pub there : get_or m.edges at 0 ≡ edge_number from label to

abbrev pub Removes : Size → Edge → Memory → Result Place Refusal → Type 0
Removes size e m (Ok p) = Takes size e.from e.label e.to m p.standing p.slot
Removes size e m (Err r) = remove_refusal size e.from e.label e.to m ≡ number_of r
