-- What the programs print, as bytes: the listing (document 01, "The layout card"), lines of one number (document 02, One), and what a layout needs.
use Rattle.std.specs.Prelude.{cond, List, [], ◌∷◌, ◌++◌, ℕ, zero, suc, ◌+◌, ◌*◌, ◌/◌, ◌%◌, ltb, length}
use Rattle.model.specs.Limits.{most_longest, digit_unit, side_unit, least_work}
use Rattle.model.specs.Computed.Lists.{spread}
use Rattle.model.specs.Computed.Query.{owner_of, hub_of, code_of}

-- n written in base b, with no zeros in front, at most `most` digits. Byte 48 is the digit 0
unfoldable pub numeral : (b most n : ℕ) → List ℕ
numeral b zero n = []
numeral b (suc most) n = let more = numeral b most (n / b) ++ ((48 + n % b) ∷ []) in cond (ltb n b) ((48 + n) ∷ []) more

-- a decimal number; 32 bits take 10 digits
abbrev pub number : ℕ → List ℕ
number n = numeral 10 10 n

-- the labels (colours) of a pattern: its code's hexadecimal digits
abbrev pub labels : ℕ → List ℕ
labels code = numeral digit_unit most_longest code

abbrev pub space : List ℕ
space = 32 ∷ []

abbrev pub newline : List ℕ
newline = 10 ∷ []

-- "out "
abbrev pub out_word : List ℕ
out_word = 111 ∷ 117 ∷ 116 ∷ 32 ∷ []

-- "in "
abbrev pub in_word : List ℕ
in_word = 105 ∷ 110 ∷ 32 ∷ []

-- "side, owner"
unfoldable pub side_line : ℕ → List ℕ
side_line e = cond (ltb e side_unit) out_word in_word ++ number (owner_of e)

-- "one line for each entry …: side, owner, hub, colours"
unfoldable pub entry_line : ℕ → List ℕ
entry_line e = side_line e ++ (space ++ (number (hub_of e) ++ (space ++ (labels (code_of e) ++ newline))))

-- "places "
abbrev pub places_word : List ℕ
places_word = 112 ∷ 108 ∷ 97 ∷ 99 ∷ 101 ∷ 115 ∷ 32 ∷ []

-- " longest "
abbrev pub longest_word : List ℕ
longest_word = 32 ∷ 108 ∷ 111 ∷ 110 ∷ 103 ∷ 101 ∷ 115 ∷ 116 ∷ 32 ∷ []

-- " legs "
abbrev pub legs_word : List ℕ
legs_word = 32 ∷ 108 ∷ 101 ∷ 103 ∷ 115 ∷ 32 ∷ []

-- " entries "
abbrev pub entries_word : List ℕ
entries_word = 32 ∷ 101 ∷ 110 ∷ 116 ∷ 114 ∷ 105 ∷ 101 ∷ 115 ∷ 32 ∷ []

-- a line with a number alone
unfoldable pub number_line : ℕ → List ℕ
number_line n = number n ++ newline

-- "refused "
abbrev pub refused_word : List ℕ
refused_word = 114 ∷ 101 ∷ 102 ∷ 117 ∷ 115 ∷ 101 ∷ 100 ∷ 32 ∷ []

-- "places 3 longest 2 legs 3 entries 5"
unfoldable pub counts : (vertices longest edges entries : ℕ) → List ℕ
counts vertices longest edges entries =
    places_word ++ (number vertices ++ (longest_word ++ (number longest ++ (legs_word ++ (number edges ++ (entries_word ++ number entries))))))

-- the same as a line
unfoldable pub header_line : (vertices longest edges entries : ℕ) → List ℕ
header_line vertices longest edges entries = counts vertices longest edges entries ++ newline

-- "A refused card prints one line, `refused` and its number"
unfoldable pub refused_line : ℕ → List ℕ
refused_line n = refused_word ++ number_line n

-- "After the header comes one line for each entry in slot order": the whole output
unfoldable pub listing : (vertices longest edges : ℕ) → List ℕ → List ℕ
listing vertices longest edges entries = header_line vertices longest edges (length entries) ++ spread entry_line entries

-- ---- what a layout needs

-- " index "
abbrev pub index_word : List ℕ
index_word = 32 ∷ 105 ∷ 110 ∷ 100 ∷ 101 ∷ 120 ∷ 32 ∷ []

-- " bytes work "
abbrev pub work_word : List ℕ
work_word = 32 ∷ 98 ∷ 121 ∷ 116 ∷ 101 ∷ 115 ∷ 32 ∷ 119 ∷ 111 ∷ 114 ∷ 107 ∷ 32 ∷ []

-- " bytes", and the line ends
abbrev pub bytes_end : List ℕ
bytes_end = 32 ∷ 98 ∷ 121 ∷ 116 ∷ 101 ∷ 115 ∷ 10 ∷ []

-- the bytes of so many 64-bit numbers
abbrev pub bytes_of : ℕ → ℕ
bytes_of n = n * 8

-- "places 3 longest 2 legs 3 entries 5 index 40 bytes work 32808 bytes": index memory has a slot for each entry, and work memory "4,096 numbers, plus
-- one for each index slot where an index is built"
unfoldable pub size_line : (vertices longest edges entries : ℕ) → List ℕ
size_line vertices longest edges entries =
    counts vertices longest edges entries ++ (index_word ++ (number (bytes_of entries) ++ (work_word ++ (number (bytes_of (least_work + entries)) ++ bytes_end))))

-- " entries", and the line ends
abbrev pub entries_end : List ℕ
entries_end = 32 ∷ 101 ∷ 110 ∷ 116 ∷ 114 ∷ 105 ∷ 101 ∷ 115 ∷ 10 ∷ []

-- "over "
abbrev pub over_word : List ℕ
over_word = 111 ∷ 118 ∷ 101 ∷ 114 ∷ 32 ∷ []

-- "over 262144 entries"
unfoldable pub over_line : ℕ → List ℕ
over_line n = over_word ++ (number n ++ entries_end)
