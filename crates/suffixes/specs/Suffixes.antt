-- Staging the entries of all patterns, by their suffixes.
use Rattle.std.specs.Prelude.{List, ◌∷◌, ℕ, suc, ◌+◌, ◌*◌, ◌≤◌, ◌<◌, length, Option, OnSome}
use Rattle.model.specs.Limits.{most_vertices, most_label, most_longest}
use Rattle.model.specs.Lists.{◌∈◌}
use Rattle.model.specs.Patterns.{code}
use Rattle.model.specs.Build.Hubs.{EntryBy, Plus}
use Rattle.edges.specs.Grouped.{Grouped}
use Rattle.rows.specs.Region.{step_rows, parent_rows, saved_rows, root_row, child_rows}
use Rattle.rows.specs.Rows.{On, InRows, Empty}
use Rattle.staging.specs.Stage.{HasTaken, Stages}
use Rattle.parent_rows.specs.Steps.{Trail, Sources, Parent}

-- the labels lead from vertex a to vertex b
pub record Spans (edges l : List ℕ) (a b : ℕ) : Type 0 where
  pub from : a < most_vertices
  pub to : b < most_vertices
  pub trail : Trail edges a l b

-- e is an entry with pattern l, by where its labels lead, once or more
abbrev pub PatternEntry : List ℕ → List ℕ → ℕ → Type 0
PatternEntry edges l e = EntryBy (Plus (Spans edges l)) (code l) e

-- the word has fewer labels than the longest pattern
pub record Chosen (word : List ℕ) (longest : ℕ) : Type 0 where
  pub more : length word < longest
  pub most : longest ≤ most_longest
  pub labels : (c : ℕ) → c ∈ word → (1 ≤ c) × (c ≤ most_label)

-- the first of the rows for one label more
abbrev pub base_of : List ℕ → ℕ
base_of word = child_rows + most_label * length word

-- row `starts`, before those rows, has every vertex from which the word can be spelled; the step rows and the parent's are empty; there is room
-- for all edges; and cnt slots are taken
pub record NodeStageable (edges slots word w : List ℕ) (starts : ℕ) (live : List ℕ) (longest cnt : ℕ) : Type 0 where
  pub grouped : Grouped edges slots
  pub chosen : Chosen word longest
  pub sources : Sources edges word w
  pub least : root_row ≤ starts
  pub before : starts < base_of word
  pub spelled : (a t : ℕ) → a < most_vertices → Trail edges a word t → On w starts a
  pub quiet : Empty w step_rows (most_vertices + most_vertices)
  pub listable : length edges ≤ length live
  pub taken : HasTaken w cnt

-- the entries of P are staged: the rows before those for one label more are kept, and the step rows and the parent's end empty
pub record NodeStages (w word : List ℕ) (P : ℕ → Type 0) (cnt : ℕ) (w' : List ℕ) (r : Option ℕ) : Type 0 where
  pub stages : Stages w (InRows saved_rows (base_of word)) P cnt w' r
  pub quiet : Empty w' step_rows (most_vertices + most_vertices)

-- ---- on the way

-- row r has every vertex from which label suc c and then the word can be spelled
pub record ChildRow (edges l w : List ℕ) (c r : ℕ) : Type 0 where
  pub has : (a t : ℕ) → a < most_vertices → Trail edges a (suc c ∷ l) t → On w r a

-- so have the rows from `base` on, for each of the first n labels
pub record Children (edges l w : List ℕ) (base n : ℕ) : Type 0 where
  pub all : (c : ℕ) → c < n → ChildRow edges l w c (base + c)

-- the parent's rows are filled, and the step rows empty
pub record LeafStageable (edges slots word w : List ℕ) (starts : ℕ) (live : List ℕ) (longest cnt : ℕ) : Type 0 where
  pub grouped : Grouped edges slots
  pub chosen : Chosen word longest
  pub parent : Parent edges word w
  pub least : root_row ≤ starts
  pub before : starts < base_of word
  pub spelled : (a t : ℕ) → a < most_vertices → Trail edges a word t → On w starts a
  pub quiet : Empty w step_rows most_vertices
  pub listable : length edges ≤ length live
  pub taken : HasTaken w cnt

-- the entries of P are staged, and the row of label suc c is filled: the parent's rows and those up to it are kept, and the step rows end
-- empty
pub record LeafStages (edges word w : List ℕ) (c : ℕ) (P : ℕ → Type 0) (cnt : ℕ) (w' : List ℕ) (r : Option ℕ) : Type 0 where
  pub stages : Stages w (InRows parent_rows (base_of word + c)) P cnt w' r
  pub child : ChildRow edges word w' c (base_of word + c)
  pub quiet : Empty w' step_rows most_vertices

-- the same for the first n labels, if there are slots for all
pub record LeavesStage (edges word w : List ℕ) (n : ℕ) (P : ℕ → Type 0) (cnt : ℕ) (w' : List ℕ) (r : Option ℕ) : Type 0 where
  pub stages : Stages w (InRows parent_rows (base_of word)) P cnt w' r
  pub children : OnSome r (Children edges word w' (base_of word) n)
  pub quiet : Empty w' step_rows most_vertices

-- and with the parent's rows emptied
pub record LevelStages (edges word w : List ℕ) (P : ℕ → Type 0) (cnt : ℕ) (w' : List ℕ) (r : Option ℕ) : Type 0 where
  pub stages : Stages w (InRows saved_rows (base_of word)) P cnt w' r
  pub children : OnSome r (Children edges word w' (base_of word) most_label)
  pub quiet : Empty w' step_rows (most_vertices + most_vertices)
