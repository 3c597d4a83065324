-- Where a call is turned down (document 01): the conditions of the table, and the order of a call's checks.
use Rattle.std.specs.Prelude.{Bool, ◌&&◌, cond, List, [], ◌∷◌, ℕ, ltb}
use Rattle.model.specs.Limits.{most_vertices, most_longest}
use Rattle.model.specs.Computed.Lists.{within?}

-- Each condition is here the test that a call must pass. (3 is the model's `edge_memory?`, 11 its `keyed?`.)

-- "1 places not 1 to 256"
abbrev pub vertices? : ℕ → Bool
vertices? n = within? 1 most_vertices n

-- "2 k not 1 to 4"
abbrev pub longest? : ℕ → Bool
longest? k = within? 1 most_longest k

-- "10 start or destination is no place"
abbrev pub ends? : ℕ → ℕ → ℕ → Bool
ends? vertices start destination = ltb start vertices && ltb destination vertices

-- a check: its number, and whether it passes
abbrev pub Check : Type 0
Check = ℕ × Bool

-- "The first that applies is returned": the number of the first check that does not pass, 0 if all do
unfoldable pub first_refusal : List Check → ℕ
first_refusal [] = 0
first_refusal (c ∷ later) = let rest = first_refusal later in cond c.1 rest c.0

-- the record's checks, with which most calls begin
unfoldable pub header_refusal : ℕ → ℕ → ℕ
header_refusal vertices longest = first_refusal ((1, vertices? vertices) ∷ (2, longest? longest) ∷ [])
