-- A record's numbers: the first two written, and the totals put behind them.
use Rattle.std.proofs.Common.{◌≡◌, refl, List, [], ◌∷◌, ◌++◌, ℕ, length, take, arith}
use lib.ListN.{set}
use Rattle.records.specs.Record.{record_numbers}

pub written : (words totals : List ℕ) (a b : ℕ) → length words ≡ record_numbers → take 2 (set (set words 0 a) 1 b) ++ totals ≡ a ∷ b ∷ totals
written [] totals a b e = absurd (omega arith)
written (x ∷ []) totals a b e = absurd (omega arith)
written (x ∷ y ∷ l) totals a b e = refl
