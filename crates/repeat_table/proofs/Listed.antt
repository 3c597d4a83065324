-- The lengths of the patterns of so many labels, and their lines.
use mathlib.Core.Path.{◌≡◌, sym, ap, ◌∙◌}
use mathlib.Core.List.{List, [], ◌++◌, map-append}
use Prim.Native.Nat.{ℕ, ◌*◌, ◌^◌, ◌≤◌, ◌<◌}
use native.Mathlib.Omega.{arith}
use lib.ListN.{length, take, get_or, length-append, length-map}
use Rattle.model.specs.Limits.{most_label, table_longest}
use Rattle.model.specs.Computed.Lists.{spread}
use Rattle.model.specs.Computed.Patterns.{min_repeat, folded_length, words, keyed_patterns}
use Rattle.model.specs.Computed.Table.{repeat_lengths}
use Rattle.model.proofs.Lists.{at_map, spread_append}
use Rattle.model.proofs.Patterns.{keyed_up, folded_length_lem}
use Rattle.model.proofs.Table.{length_words, word_keyed}
use Rattle.printing.specs.Lines.{number_line}
use Rattle.printing.proofs.Putting.{numbers_length, number_lines}
use Rattle.repeat_table.specs.Lengths.{lengths}

pub length_lengths : (n : ℕ) → length (lengths n) ≡ most_label ^ n
unfolding lengths
length_lengths n = length-map (words n) (λ l. length (min_repeat l)) ∙ length_words n

pub ruleset length_lines = (number_lines, length_lengths)

-- what is folded of a word is the length at its place
pub folded_at : (n number : ℕ) (word : List ℕ) → 1 ≤ n → n ≤ table_longest → number < most_label ^ n → word ≡ get_or (words n) number []
    → folded_length word ≡ get_or (lengths n) number 0
unfolding lengths
folded_at n number word some few inside is =
    folded_length_lem word (keyed_up few (rw (sym is) at (word_keyed n number some inside)))
    ∙ ap (λ (l : List ℕ). length (min_repeat l)) is
    ∙ sym (at_map [] 0 (λ l. length (min_repeat l)) (words n) number (omega (arith, length_words n)))

-- ---- the whole table, part by part

pub part_length : (n : ℕ) → length (spread number_line (lengths n)) ≤ most_label ^ n * 11
part_length n = omega (arith, numbers_length (lengths n), length_lengths n)

pub ruleset part_lengths = (length-append, part_length)

abbrev pub part : ℕ → List ℕ
part n = spread number_line (lengths n)

parts : repeat_lengths ≡ ((lengths 1 ++ lengths 2) ++ lengths 3) ++ lengths 4
unfolding repeat_lengths keyed_patterns lengths
parts = simp map-append

pub table_parts : spread number_line repeat_lengths ≡ ((part 1 ++ part 2) ++ part 3) ++ part 4
table_parts = rw parts (simp spread_append)
