-- Document 01's own outputs come out of the definitions, by computing, and lines of the program size.
use mathlib.Core.Path.{◌≡◌, refl}
use mathlib.Core.List.{List, [], ◌∷◌, ◌++◌}
use Prim.Native.Nat.{ℕ}
use Rattle.model.specs.Computed.Lists.{spread}
use Rattle.printing.specs.Lines.{numeral, side_line, entry_line, counts, header_line, number_line, refused_line, listing, size_line, over_line}

-- "Output, whole", line by line
abbrev pub header : List ℕ
header = 112 ∷ 108 ∷ 97 ∷ 99 ∷ 101 ∷ 115 ∷ 32 ∷ 51 ∷ 32 ∷ 108 ∷ 111 ∷ 110 ∷ 103 ∷ 101 ∷ 115 ∷ 116 ∷ 32 ∷ 50 ∷ 32 ∷ 108 ∷ 101 ∷ 103 ∷ 115 ∷ 32 ∷ 51 ∷ 32 ∷ 101 ∷ 110 ∷ 116 ∷ 114 ∷ 105 ∷ 101 ∷ 115 ∷ 32 ∷ 53 ∷ 10 ∷ []

abbrev pub out_0_0_12 : List ℕ
out_0_0_12 = 111 ∷ 117 ∷ 116 ∷ 32 ∷ 48 ∷ 32 ∷ 48 ∷ 32 ∷ 49 ∷ 50 ∷ 10 ∷ []

abbrev pub out_0_1_1 : List ℕ
out_0_1_1 = 111 ∷ 117 ∷ 116 ∷ 32 ∷ 48 ∷ 32 ∷ 49 ∷ 32 ∷ 49 ∷ 10 ∷ []

abbrev pub out_1_1_21 : List ℕ
out_1_1_21 = 111 ∷ 117 ∷ 116 ∷ 32 ∷ 49 ∷ 32 ∷ 49 ∷ 32 ∷ 50 ∷ 49 ∷ 10 ∷ []

abbrev pub in_0_1_2 : List ℕ
in_0_1_2 = 105 ∷ 110 ∷ 32 ∷ 48 ∷ 32 ∷ 49 ∷ 32 ∷ 50 ∷ 10 ∷ []

abbrev pub in_2_1_1 : List ℕ
in_2_1_1 = 105 ∷ 110 ∷ 32 ∷ 50 ∷ 32 ∷ 49 ∷ 32 ∷ 49 ∷ 10 ∷ []

pub listing_A : listing 3 2 3 (18 ∷ 65537 ∷ 16842785 ∷ 4295032834 ∷ 4328587265 ∷ [])
    ≡ header ++ (out_0_0_12 ++ (out_0_1_1 ++ (out_1_1_21 ++ (in_0_1_2 ++ in_2_1_1))))
unfolding numeral side_line entry_line counts header_line listing spread
listing_A = refl

-- "as `refused 14`"
pub refused_14 : refused_line 14 ≡ 114 ∷ 101 ∷ 102 ∷ 117 ∷ 115 ∷ 101 ∷ 100 ∷ 32 ∷ 49 ∷ 52 ∷ 10 ∷ []
unfolding numeral number_line refused_line
refused_14 = refl

-- layout A: "places 3 longest 2 legs 3 entries 5 index 40 bytes work 32808 bytes"
abbrev pub sizes_A : List ℕ
sizes_A = 112 ∷ 108 ∷ 97 ∷ 99 ∷ 101 ∷ 115 ∷ 32 ∷ 51 ∷ 32 ∷ 108 ∷ 111 ∷ 110 ∷ 103 ∷ 101 ∷ 115 ∷ 116 ∷ 32 ∷ 50 ∷ 32 ∷ 108 ∷ 101 ∷ 103 ∷ 115 ∷ 32 ∷ 51 ∷ 32 ∷ 101 ∷ 110 ∷ 116 ∷ 114 ∷ 105 ∷ 101 ∷ 115 ∷ 32 ∷ 53 ∷ 32 ∷ 105 ∷ 110 ∷ 100 ∷ 101 ∷ 120 ∷ 32 ∷ 52 ∷ 48 ∷ 32 ∷ 98 ∷ 121 ∷ 116 ∷ 101 ∷ 115 ∷ 32 ∷ 119 ∷ 111 ∷ 114 ∷ 107 ∷ 32 ∷ 51 ∷ 50 ∷ 56 ∷ 48 ∷ 56 ∷ 32 ∷ 98 ∷ 121 ∷ 116 ∷ 101 ∷ 115 ∷ 10 ∷ []

pub size_line_A : size_line 3 2 3 5 ≡ sizes_A
unfolding numeral counts size_line
size_line_A = refl

-- "over 262144 entries"
pub over_262144 : over_line 262144 ≡ 111 ∷ 118 ∷ 101 ∷ 114 ∷ 32 ∷ 50 ∷ 54 ∷ 50 ∷ 49 ∷ 52 ∷ 52 ∷ 32 ∷ 101 ∷ 110 ∷ 116 ∷ 114 ∷ 105 ∷ 101 ∷ 115 ∷ 10 ∷ []
unfolding numeral over_line
over_262144 = refl
