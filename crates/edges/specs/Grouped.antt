-- Edges grouped by label.
use Rattle.std.specs.Prelude.{◌≡◌, List, ℕ, suc, ◌-◌, ◌≤◌, ◌<◌, length, get_or, take, drop}
use Rattle.model.specs.Limits.{most_vertices, most_label}
use Rattle.model.specs.Lists.{◌∈◌}
use Rattle.model.specs.Edges.{from_of, label_of}

-- the edges of label suc c: those from number c of the table up to the next
abbrev pub section : List ℕ → List ℕ → ℕ → List ℕ
section edges slots c = take (get_or slots (suc c) 0 - get_or slots c 0) (drop (get_or slots c 0) edges)

-- edges that start at vertices, those of each label in its section
pub record Grouped (edges slots : List ℕ) : Type 0 where
  pub long : length slots ≡ suc most_label
  pub rises : (c : ℕ) → c < most_label → get_or slots c 0 ≤ get_or slots (suc c) 0
  pub most : (c : ℕ) → c ≤ most_label → get_or slots c 0 ≤ length edges
  pub only : (c x : ℕ) → c < most_label → x ∈ section edges slots c → label_of x ≡ suc c
  pub all : (c x : ℕ) → c < most_label → x ∈ edges → label_of x ≡ suc c → x ∈ section edges slots c
  pub from_small : (x : ℕ) → x ∈ edges → from_of x < most_vertices
