-- Entries staged behind the rows of work memory.
use Rattle.std.specs.Prelude.{◌≡◌, List, ◌≢◌, ℕ, ◌+◌, ◌-◌, ◌≤◌, ◌<◌, length, get_or, Option, IfSome, IfNone}
use Rattle.model.specs.Limits.{most_vertices, least_work}
use Rattle.model.specs.Build.Hubs.{Joined}
use Rattle.rows.specs.Region.{work_rows, rest_row, picked_row}
use Rattle.rows.specs.Rows.{On, KeepsRows, StepsTo}

-- the i-th number staged
abbrev pub staged : List ℕ → ℕ → ℕ
staged w i = get_or w (least_work + i) 0

-- e is one of the staged numbers from k up to n
pub record StagedAt (w : List ℕ) (k n e : ℕ) : Type 0 where
  pub i : ℕ
  pub low : k ≤ i
  pub high : i < n
  pub is : staged w i ≡ e

-- the staged numbers from k up to n are different ones of Q
pub record Different (w : List ℕ) (k n : ℕ) (Q : ℕ → Type 0) : Type 0 where
  pub only : (i : ℕ) → k ≤ i → i < n → Q (staged w i)
  pub once : (i j : ℕ) → k ≤ i → i < j → j < n → staged w i ≡ staged w j → ⊥

-- and all of them
pub record Adds (w : List ℕ) (k n : ℕ) (Q : ℕ → Type 0) : Type 0 where
  pub more : k ≤ n
  pub different : Different w k n Q
  pub all : (e : ℕ) → Q e → StagedAt w k n e

-- and there is one more
pub record Over (w : List ℕ) (k n : ℕ) (Q : ℕ → Type 0) : Type 0 where
  pub different : Different w k n Q
  pub extra : ℕ
  pub is : Q extra
  pub fresh : StagedAt w k n extra → ⊥

-- work memory has slots behind its rows, cnt of them taken
abbrev pub HasTaken : List ℕ → ℕ → Type 0
HasTaken w cnt = least_work + cnt ≤ length w

-- how many slots there are
abbrev pub room_of : List ℕ → ℕ
room_of w = length w - least_work

-- the numbers of P are staged behind the first cnt: Some n numbers are staged then, or there are more than slots; the rows of K are kept
pub record Stages (w : List ℕ) (K P : ℕ → Type 0) (cnt : ℕ) (w' : List ℕ) (r : Option ℕ) : Type 0 where
  pub keeps : KeepsRows w w' K
  pub old : (i : ℕ) → i < cnt → staged w' i ≡ staged w i
  pub done : IfSome r (λ n. HasTaken w n × Adds w' cnt n P)
  pub over : IfNone r (Over w' cnt (room_of w) P)

-- the rows that staging keeps: all of them, and all but row `picked`
abbrev pub AllRows : ℕ → Type 0
AllRows r = r < work_rows

abbrev pub Unpicked : ℕ → Type 0
Unpicked r = (r < work_rows) × (r ≢ picked_row)

-- each vertex steps to all that its steps lead to
pub record Transits (w : List ℕ) : Type 0 where
  pub on : (a b c : ℕ) → StepsTo w a b → StepsTo w b c → StepsTo w a c

-- the step rows are closed, and cnt slots are taken: for all starts, and for start s
pub record Stageable (w : List ℕ) (cnt : ℕ) : Type 0 where
  pub transits : Transits w
  pub taken : HasTaken w cnt

pub record VertexStageable (w : List ℕ) (s cnt : ℕ) : Type 0 where
  pub vertex : s < most_vertices
  pub transits : Transits w
  pub taken : HasTaken w cnt

-- e is the entry for a vertex of row `rest` and one to which it steps, with none earlier than both between the two
pub record RestEntry (w : List ℕ) (code e : ℕ) : Type 0 where
  pub start : ℕ
  pub on : On w rest_row start
  pub joined : Joined (StepsTo w) code start e
