-- Index memory as check 12 tests it, and the question as it is computed.
use Rattle.std.specs.Prelude.{Bool, ◌&&◌, ◌||◌, cond, List, [], ◌∷◌, ◌++◌, ℕ, zero, suc, ◌/◌, ◌%◌, eqb, ltb}
use Rattle.model.specs.Limits.{most_vertices, digit_unit, code_digits, hub_unit, owner_unit, side_unit}
use Rattle.model.specs.Lists.{any?, mem?, up_to}
use Rattle.model.specs.Entries.{out_entry, in_entry}
use Rattle.model.specs.Computed.Edges.{rising?}
use Rattle.model.specs.Computed.Patterns.{keyed?, own?}

-- the fields of an entry number
abbrev pub side_of : ℕ → ℕ
side_of x = x / side_unit

abbrev pub owner_of : ℕ → ℕ
owner_of x = x / owner_unit % most_vertices

abbrev pub hub_of : ℕ → ℕ
hub_of x = x / hub_unit % most_vertices

abbrev pub code_of : ℕ → ℕ
code_of x = x % hub_unit

-- the hexadecimal digits of a code, at most n of them, the first leftmost
unfoldable pub digits : ℕ → ℕ → List ℕ
digits zero code = []
digits (suc n) code = let more = digits n (code / digit_unit) ++ (code % digit_unit ∷ []) in cond (eqb code 0) [] more

-- "code not a pattern of at most k that is its own minimum repeat": what is let pass
unfoldable pub code? : ℕ → ℕ → Bool
code? longest code = let l = digits code_digits code in keyed? longest l && own? l

-- `OfEntry` as a test
unfoldable pub entry? : ℕ → ℕ → ℕ → Bool
entry? vertices longest x = ltb (side_of x) 2 && (ltb (owner_of x) vertices && (ltb (hub_of x) vertices && code? longest (code_of x)))

-- entries that rise from above prev, then zeros
unfoldable pub rising_entries? : ℕ → ℕ → ℕ → List ℕ → Bool
rising_entries? vertices longest prev xs = rising? (entry? vertices longest) prev xs

-- what check 12 lets pass
unfoldable pub index_memory? : ℕ → ℕ → List ℕ → Bool
index_memory? vertices longest xs = rising_entries? vertices longest 0 xs

-- `Answers` as a test
unfoldable pub answers? : ℕ → List ℕ → List ℕ → ℕ → ℕ → Bool
answers? vertices index l s t =
    mem? (out_entry s t l) index
    || (mem? (in_entry t s l) index || any? (λ h. mem? (out_entry s h l) index && mem? (in_entry t h l) index) (up_to vertices))
