-- The numbers that documents 01 and 02 fix, each named once.
use Rattle.std.specs.Prelude.{ℕ, suc, ◌*◌, ◌^◌}

-- places are 1 to 256, legs at most 1,024, colours 1 to 8, the longest pattern k 1 to 4
abbrev pub most_vertices : ℕ
most_vertices = 256

abbrev pub most_edges : ℕ
most_edges = 1024

abbrev pub most_label : ℕ
most_label = 8

abbrev pub most_longest : ℕ
most_longest = 4

-- "from × 4,096 + colour × 256 + to"
abbrev pub from_unit : ℕ
from_unit = 4096

abbrev pub label_unit : ℕ
label_unit = 256

-- "Code reads the colours as hexadecimal digits"
abbrev pub digit_unit : ℕ
digit_unit = 16

-- work memory has at least 4,096 numbers
abbrev pub least_work : ℕ
least_work = 4096

-- what the fields of an index entry are multiplied by; codes lie below the least, so they have at most four hexadecimal digits
abbrev pub code_digits : ℕ
code_digits = 4

abbrev pub hub_unit : ℕ
hub_unit = 2 ^ 16

abbrev pub owner_unit : ℕ
owner_unit = 2 ^ 24

abbrev pub side_unit : ℕ
side_unit = 2 ^ 32

-- "An allowance of 1,025 always gives yes or no": one level more than there are states
abbrev pub enough_levels : ℕ
enough_levels = suc (most_longest * most_vertices)

-- a card's bytes before its edges, and those of an edge behind them
abbrev pub head_bytes : ℕ
head_bytes = 9

abbrev pub triple_bytes : ℕ
triple_bytes = 3

-- document 02, One: the table has "each of the 4,680 patterns of one to four colours"
abbrev pub table_longest : ℕ
table_longest = 4

abbrev pub table_size : ℕ
table_size = 4680
