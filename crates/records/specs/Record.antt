-- The record as numbers in memory.
use Rattle.std.specs.Prelude.{ℕ}

-- a record has ten numbers
abbrev pub record_numbers : ℕ
record_numbers = 10
