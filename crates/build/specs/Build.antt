-- Building the index of a graph (document 01, "What the index contains"): all entries that it determines with an access order, if they fit.
use Rattle.std.specs.Prelude.{◌≡◌, cond, List, ℕ, ◌+◌, ◌≤◌, ltb, length, take, Option, None, Some}
use Rattle.model.specs.Limits.{least_work}
use Rattle.model.specs.Lists.{filled}
use Rattle.model.specs.Edges.{Graph, Bounds}
use Rattle.model.specs.Computed.Entries.{entries}
use Rattle.rows.specs.Region.{saved_rows, root_row}
use Rattle.rows.specs.Rows.{KeepsRows, InRows}
use Rattle.renumber.specs.Ranked.{Renumberable}

-- a header's numbers, its standing edges, and an order of its vertices; work memory has room for every slot of the index
pub record Buildable (vertices longest : ℕ) (edges order : List ℕ) (slots : ℕ) (w : List ℕ) : Type 0 where
  pub bounds : Bounds vertices longest
  pub ordered : Renumberable vertices edges order
  pub work : least_work + slots ≤ length w

-- the entries that the graph determines with the order in memory
abbrev pub list_of : Graph → List ℕ → List ℕ
list_of g order = entries g (take g.vertices order)

-- how many they are if they fit, and index memory afterwards: the entries with zeros behind, or as it was
abbrev pub built_of : Graph → List ℕ → ℕ → Option ℕ
built_of g order slots = cond (ltb slots (length (list_of g order))) None (Some (length (list_of g order)))

abbrev pub index_of : Graph → List ℕ → List ℕ → List ℕ
index_of g order index = cond (ltb (length index) (length (list_of g order))) index (filled (length index) (list_of g order))

-- the numbers in which edge memory is saved are kept
abbrev pub Saved : List ℕ → List ℕ → Type 0
Saved w w' = KeepsRows w w' (InRows saved_rows root_row)

-- reply and index memory are the definition's, and saved edge memory is kept
pub record Builds (g : Graph) (order index w index' w' : List ℕ) (r : Option ℕ) : Type 0 where
  pub reply : r ≡ built_of g order (length index)
  pub index_is : index' ≡ index_of g order index
  pub saved : Saved w w'
