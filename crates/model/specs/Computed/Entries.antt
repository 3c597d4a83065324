-- The entries as a list: every owner, hub and pattern is tried.
use Rattle.std.specs.Prelude.{Bool, not, ◌&&◌, ◌||◌, List, ◌++◌, map, ℕ, eqb, leb}
use Rattle.model.specs.Lists.{keep, mem?, up_to}
use Rattle.model.specs.Edges.{Graph}
use Rattle.model.specs.Patterns.{code}
use Rattle.model.specs.Order.{rank}
use Rattle.model.specs.Entries.{entry_of}
use Rattle.model.specs.Computed.Lists.{all?, spread}
use Rattle.model.specs.Computed.Patterns.{patterns}
use Rattle.model.specs.Computed.Order.{counted}
use Rattle.model.specs.Computed.Levels.{runs?}

-- all stops of all walks from s to t that run l
unfoldable pub stop? : Graph → List ℕ → ℕ → ℕ → ℕ → Bool
stop? g l s t u = runs? g l s t && (eqb u s || (eqb u t || (runs? g l s u && runs? g l u t)))

unfoldable pub all_stops : Graph → List ℕ → ℕ → ℕ → List ℕ
all_stops g l s t = keep (stop? g l s t) (up_to g.vertices)

unfoldable pub earliest? : Graph → List ℕ → List ℕ → ℕ → ℕ → ℕ → Bool
earliest? g order l s t u = mem? u (all_stops g l s t) && all? (λ v. leb (rank order u) (rank order v)) (all_stops g l s t)

-- the out list of s has (t, l); the in list of t has (s, l)
unfoldable pub out? : Graph → List ℕ → ℕ → ℕ → List ℕ → Bool
out? g order s t l = earliest? g order l s t t

unfoldable pub in? : Graph → List ℕ → ℕ → ℕ → List ℕ → Bool
in? g order t s l = not (eqb s t) && earliest? g order l s t s

-- the entries of one side that pass a test: of one owner and hub, of one owner, of all
module _ (g : Graph) (side : ℕ) (test : ℕ → ℕ → List ℕ → Bool) where
  unfoldable pub of_hub : ℕ → ℕ → List ℕ
  of_hub owner hub = map (λ l. entry_of side owner hub (code l)) (keep (test owner hub) (patterns g.longest))

  unfoldable pub of_owner : ℕ → List ℕ
  of_owner owner = spread (of_hub owner) (up_to g.vertices)

  unfoldable pub of_side : List ℕ
  of_side = spread of_owner (up_to g.vertices)

-- "Entries rise strictly": the entries that a graph determines with an order
unfoldable pub entries : Graph → List ℕ → List ℕ
entries g order = of_side g 0 (out? g order) ++ of_side g 1 (in? g order)

-- the entries that a graph determines with its access order
unfoldable pub determined : Graph → List ℕ
determined g = entries g (counted g)
