-- What the marking loops set in a table of marks, and which vertices both mark.
use Rattle.std.specs.Prelude.{◌≡◌, Bool, false, ◌&&◌, ◌||◌, List, ℕ, eqb, get_or}
use Rattle.model.specs.Lists.{any?}
use Rattle.model.specs.Computed.Query.{owner_of, hub_of, code_of}

-- entry x has the code
abbrev pub coded? : ℕ → ℕ → Bool
coded? code x = eqb (code_of x) code

-- and a marked hub
abbrev pub joined? : ℕ → List Bool → ℕ → Bool
joined? code hubs x = coded? code x && get_or hubs (hub_of x) false

-- some entry that passes the test has v in the field
unfoldable pub found? : (ℕ → Bool) → (ℕ → ℕ) → List ℕ → ℕ → Bool
found? test field list v = any? (λ x. test x && eqb (field x) v) list

-- the marks before, and those of what is found
pub record Marked (test : ℕ → Bool) (field : ℕ → ℕ) (list : List ℕ) (before after : List Bool) : Type 0 where
  pub each : (v : ℕ) → get_or after v false ≡ (get_or before v false || found? test field list v)

-- h is the hub of an entry of the vertex's own list, with the code
unfoldable pub hub? : List ℕ → ℕ → ℕ → Bool
hub? own code h = found? (coded? code) hub_of own h

-- v is such a hub, or owns an entry with the code whose hub is such a hub or the vertex itself
unfoldable pub linked? : List ℕ → List ℕ → ℕ → ℕ → ℕ → Bool
linked? own others vertex code v =
    hub? own code v || found? (λ x. coded? code x && (hub? own code (hub_of x) || eqb vertex (hub_of x))) owner_of others v
