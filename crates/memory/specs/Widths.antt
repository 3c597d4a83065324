-- Numbers of one width in slots of another.
use Rattle.std.specs.Prelude.{List, ℕ, ◌<◌, ◌^◌}
use Rattle.model.specs.Lists.{◌∈◌}

-- each fits 32 bits
abbrev pub Narrow : List ℕ → Type 0
Narrow xs = (x : ℕ) → x ∈ xs → x < 2 ^ 32
