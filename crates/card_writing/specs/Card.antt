-- What the functions that write a card need, and what they write.
use Rattle.std.specs.Prelude.{◌≡◌, true, Result, Ok, Err, List, [], ◌∷◌, ◌++◌, ℕ, ◌+◌, ◌-◌, ◌*◌, ◌≤◌, ◌<◌, length}
use Rattle.model.specs.Limits.{most_edges, head_bytes, triple_bytes}
use Rattle.model.specs.Lists.{◌∈◌}
use Rattle.model.specs.Edges.{Bounds, from_of}
use Rattle.model.specs.Replies.{number_of}
use Rattle.model.specs.Computed.Edges.{edge?}
use Rattle.calls.specs.Call.{Size, Memory}
use Rattle.calls.specs.Card.{mark, word_bytes, write_refusal}
use Rattle.checks.specs.LayoutChecks.{LayoutPasses}
use Rattle.model.specs.declared.Refusal.{Refusal}

-- the size and the edges of a graph whose card the output has room for
pub record Writable (size : Size) (edges output : List ℕ) : Type 0 where
  pub bounds : Bounds size.vertices size.longest
  pub few : length edges ≤ most_edges
  pub valid : (x : ℕ) → x ∈ edges → edge? size.vertices x ≡ true
  pub room : head_bytes + triple_bytes * length edges ≤ length output

-- the first nine bytes of a card with n edges, and what fits in them
abbrev pub head_of : ℕ → ℕ → ℕ → List ℕ
head_of vertices longest n = mark ++ word_bytes 1 ++ ((vertices - 1) ∷ longest ∷ []) ++ word_bytes n

pub record Head (vertices longest n : ℕ) (output : List ℕ) : Type 0 where
  pub bounds : Bounds vertices longest
  pub few : n ≤ most_edges
  pub room : head_bytes ≤ length output

-- edges whose ends are bytes, with room for three bytes each
pub record Body (edges output : List ℕ) : Type 0 where
  pub narrow : (x : ℕ) → x ∈ edges → from_of x < 256
  pub room : triple_bytes * length edges ≤ length output

-- all checks of a card that is written have passed, and n edges stand
pub record WritePasses (size : Size) (m : Memory) (n : ℕ) : Type 0 where
  pub is : write_refusal size m ≡ 0
  pub layout : LayoutPasses size.vertices size.longest m.edges n
  pub room : head_bytes + triple_bytes * n ≤ length m.output

abbrev pub WriteChecks : Size → Memory → Result ℕ Refusal → Type 0
WriteChecks size m (Ok n) = WritePasses size m n
WriteChecks size m (Err r) = write_refusal size m ≡ number_of r
