-- Edges turned round (document 02, Five): a walk over them is a walk over the edges as they were, from its end to its start.
use Rattle.std.specs.Prelude.{List, ℕ, ◌≤◌}
use Rattle.model.specs.Limits.{most_label}
use Rattle.model.specs.Lists.{◌∈◌}
use Rattle.model.specs.Edges.{edge_number, from_of, label_of, to_of}

-- an edge with its ends exchanged
abbrev pub turned : ℕ → ℕ
turned x = edge_number (to_of x) (label_of x) (from_of x)

-- each list has the edges of the other turned round
pub record TurnedRound (edges back : List ℕ) : Type 0 where
  pub there : (x : ℕ) → x ∈ edges → turned x ∈ back
  pub home : (x : ℕ) → x ∈ back → turned x ∈ edges

-- a pattern of labels. A greater number would run over into the field of an edge's start, so that the edge turned round is another one
pub record Labelled (l : List ℕ) : Type 0 where
  pub labels : (c : ℕ) → c ∈ l → c ≤ most_label
