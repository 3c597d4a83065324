-- The route by a search: a queue of states, each with the first walk to it, in the order of these walks.
use Rattle.std.specs.Prelude.{Bool, not, ◌&&◌, cond, List, [], ◌∷◌, ◌++◌, reverse, ℕ, zero, suc, ◌+◌, ◌%◌, eqb, ltb, length, get_or}
use Rattle.model.specs.Lists.{keep, mem?, empty?}
use Rattle.model.specs.Edges.{Graph, edge_number, to_of}
use Rattle.model.specs.States.{state, vertex_of, used_of}
use Rattle.model.specs.Computed.Levels.{states}

-- the state that the edge x leads to from the state a
abbrev pub ahead : List ℕ → ℕ → ℕ → ℕ
ahead l a x = state (to_of x) (suc (used_of a) % length l)

-- x is an edge of the next label from the state a
unfoldable pub follows? : Graph → List ℕ → ℕ → ℕ → Bool
follows? g l a x = eqb x (edge_number (vertex_of a) (get_or l (used_of a) 0) (to_of x)) && ltb (to_of x) g.vertices

-- a state, and the edges of a walk to it, the last one first
pub record Node : Type 0 where
  pub at : ℕ
  pub back : List ℕ

-- one edge further
abbrev pub node_by : List ℕ → Node → ℕ → Node
node_by l n x = record { at = ahead l n.at x; back = x ∷ n.back }

-- the nodes that are still to be taken, and the states that none has reached
pub record Frontier : Type 0 where
  pub todo : List Node
  pub fresh : List ℕ

-- a node is queued if its state is fresh
unfoldable pub visit : Node → Frontier → Frontier
visit n o = cond (mem? n.at o.fresh) (record { todo = o.todo ++ n ∷ []; fresh = keep (λ z. not (eqb z n.at)) o.fresh }) o

-- one edge after another from node n
unfoldable pub visit_all : List ℕ → Node → List ℕ → Frontier → Frontier
visit_all l n [] o = o
visit_all l n (x ∷ xs) o = visit_all l n xs (visit (node_by l n x) o)

-- the nodes taken so far, the queue, and how many may be taken
unfoldable pub search : Graph → List ℕ → ℕ → List Node → List Node → List ℕ → List Node
search g l zero done todo fresh = done
search g l (suc f) done [] fresh = done
search g l (suc f) done (n ∷ todo) fresh =
    let o = visit_all l n (keep (follows? g l n.at) g.edges) (record { todo = todo; fresh = fresh }) in
    search g l f (done ++ n ∷ []) o.todo o.fresh

-- the start, with no edge
abbrev pub start_node : ℕ → Node
start_node s = record { at = state s 0; back = [] }

-- the first walk with an edge to the state
unfoldable pub pick : ℕ → List Node → List ℕ
pick z [] = []
pick z (n ∷ ns) = let later = pick z ns in cond (eqb n.at z && not (empty? n.back)) (reverse n.back) later

-- the route's edges, and no edges where there is none
unfoldable pub route_of : Graph → List ℕ → ℕ → ℕ → List ℕ
route_of g l s t = pick (state t 0) (search g l (suc (length (states g l))) [] (start_node s ∷ []) (states g l))
