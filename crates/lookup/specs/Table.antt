-- What the table is held to (document 02, One), sentence by sentence.
use Rattle.std.specs.Prelude.{◌≡◌, ◌⊎◌, ◌↔◌, Bool, cond, ℕ, ◌<◌, T, length, take, get_or}
use mathlib.Core.List.{List, map, Memᴰ}
use Rattle.model.specs.Limits.{table_longest, table_size}
use Rattle.model.specs.Lists.{from, Sorted}
use Rattle.model.specs.Patterns.{Keyed, MinRepeat, code}
use Rattle.model.specs.Computed.Lists.{same?}
use Rattle.model.specs.Computed.Patterns.{keyed?, folded_length, keyed_patterns}
use Rattle.model.specs.Computed.Table.{repeat_lengths, shorter, place, StandsOnce}

-- "One test over the whole table ties each entry to the definition.": what is computed of the constant, and how many entries it looks at
abbrev pub tested_entries : ℕ
tested_entries = table_size

unfoldable pub tested? : List ℕ → Bool
tested? table = same? (take tested_entries table) (take tested_entries repeat_lengths)

-- the same of the starts: behind all patterns that are shorter
unfoldable pub starts_right? : List ℕ → Bool
starts_right? starts = same? starts (map shorter (from 1 table_longest))

-- what is looked up in a table: the entry at a pattern's place; 0 of what is no pattern of the table
unfoldable pub looked_up : List ℕ → List ℕ → ℕ
looked_up table l = cond (keyed? table_longest l) (get_or table (place l) 0) 0

-- "shorter patterns first and then by code"
abbrev pub Precedes : List ℕ → List ℕ → Type 0
Precedes l m = (length l < length m) ⊎ ((length l ≡ length m) × (code l < code m))

pub record TableMeaning : Type 0 where
  -- "each of the 4,680 patterns of one to four colours"
  pub many : length (keyed_patterns table_longest) ≡ table_size
  pub each : (l : List ℕ) → Memᴰ l (keyed_patterns table_longest) ↔ Keyed table_longest l
  pub order : Sorted Precedes (keyed_patterns table_longest)
  -- and each of them once, at the place where it is looked up
  pub once : (l : List ℕ) → Keyed table_longest l → StandsOnce (keyed_patterns table_longest) l (place l)
  -- a table that passes the test has the length of each one's minimum repeat there
  pub entry : (table : List ℕ) → T (tested? table) → (l m : List ℕ) → Keyed table_longest l → MinRepeat l m → get_or table (place l) 0 ≡ length m
  -- "The computed leaf stays, and the two agree on every pattern.": and on what is none
  pub agrees : (table : List ℕ) → T (tested? table) → (l : List ℕ) → looked_up table l ≡ folded_length l
