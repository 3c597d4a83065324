-- A word with one label more before it.
use mathlib.Core.List.Memᴰ
use mathlib.Core.List.{List, ◌∷◌}
use Prim.Native.Nat.{ℕ, suc, ◌≤◌, ◌<◌}
use native.Mathlib.Omega.{arith}
use Rattle.model.specs.Limits.{most_label}
use Rattle.model.specs.Lists.{◌∈◌}
use Rattle.suffixes.specs.Suffixes.{Chosen}

pub child_labels : {word : List ℕ} {longest c : ℕ} → Chosen word longest → c < most_label → (x : ℕ) → x ∈ suc c ∷ word → (1 ≤ x) × (x ≤ most_label)
child_labels h k x (Memᴰ.head e) = (omega arith, omega arith)
child_labels h k x (Memᴰ.tail m) = h.labels x m
