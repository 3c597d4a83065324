-- Index memory and the question (query) of document 01, put to index memory of any content.
use Rattle.std.specs.Prelude.{◌≡◌, List, ℕ, ◌<◌}
use Rattle.model.specs.Lists.{◌∈◌}
use Rattle.model.specs.Patterns.{Pattern, code}
use Rattle.model.specs.Entries.{entry_of, out_entry, in_entry}

-- the code of a pattern that an index with longest pattern k has
pub record Coded (k number : ℕ) : Type 0 where
  pub pattern : List ℕ
  pub is : Pattern k pattern
  pub coded : code pattern ≡ number

-- x is the number of an entry: side 0 or 1, owner and hub vertices of the graph, and such a code
pub record OfEntry (vertices longest x : ℕ) : Type 0 where
  pub side : ℕ
  pub owner : ℕ
  pub hub : ℕ
  pub number : ℕ
  pub sides : side < 2
  pub ends : (owner < vertices) × (hub < vertices)
  pub coded : Coded longest number
  pub is : x ≡ entry_of side owner hub number

-- "yes if the out list of s has (t, L), or the in list of t has (s, L), or some hub stands with L in both"
pub data Answers (vertices : ℕ) (index l : List ℕ) (s t : ℕ) : Type 0 where
  target : out_entry s t l ∈ index → Answers vertices index l s t
  source : in_entry t s l ∈ index → Answers vertices index l s t
  shared : (h : ℕ) → h < vertices → out_entry s h l ∈ index → in_entry t h l ∈ index → Answers vertices index l s t

-- the replies of document 01 to a question: yes, no, and refused with a number
pub data Answered : Type 0 where
  Yes No : Answered
  Refused : ℕ → Answered
