-- The labels of the standing edges counted.
use Rattle.std.specs.Prelude.{◌≡◌, List, ℕ, ◌+◌, ◌*◌, ◌/◌, ◌<◌, length, get_or}
use Rattle.model.specs.Limits.{from_unit, label_unit}
use Rattle.model.specs.Edges.{standing, total_of}

-- how many labels the field of a label has room for
abbrev pub labels : ℕ
labels = from_unit / label_unit

-- what two tables of counts, one behind the other, have for a label
abbrev pub both : List ℕ → ℕ → ℕ
both counts c = get_or counts c 0 + get_or counts (labels + c) 0

-- the labels of the standing edges counted in two such tables: together they have each label's total
pub record LabelCounts (xs counts : List ℕ) : Type 0 where
  pub long : length counts ≡ 2 * labels
  pub each : (c : ℕ) → c < labels → both counts c ≡ total_of (standing xs) c
