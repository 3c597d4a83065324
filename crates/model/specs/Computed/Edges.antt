-- Edge memory as it is checked and changed: check 3, and an edge more or less.
use Rattle.std.specs.Prelude.{Bool, true, ◌&&◌, cond, List, [], ◌∷◌, ℕ, ◌≤◌, eqb, ltb, leb, length}
use Rattle.model.specs.Limits.{most_vertices, most_edges, most_label, most_longest}
use Rattle.model.specs.Edges.{Graph, from_of, label_of, to_of}
use Rattle.model.specs.Computed.Lists.{within?}

-- a graph of which only vertices and edges matter: its longest pattern plays no part
abbrev pub bare : ℕ → List ℕ → Graph
bare vertices edges = record { vertices = vertices; longest = 0; edges = edges }

-- of the bounds that checks 1 and 2 leave, the part that most laws need
pub record Small (g : Graph) : Type 0 where
  pub vertices_small : g.vertices ≤ most_vertices
  pub longest_small : g.longest ≤ most_longest

-- "a colour 1 to 8"
abbrev pub label? : ℕ → Bool
label? c = within? 1 most_label c

-- `OfEdge` as a test. Both ends are below them, so at most 256 vertices leave one reading
unfoldable pub edge? : ℕ → ℕ → Bool
edge? vertices x = ltb (from_of x) vertices && (label? (label_of x) && ltb (to_of x) vertices)

-- every slot is zero
unfoldable pub zeros? : List ℕ → Bool
zeros? [] = true
zeros? (x ∷ xs) = eqb x 0 && zeros? xs

-- numbers that pass a test and rise from above prev, "then zeros"
abbrev pub rising? : (ℕ → Bool) → ℕ → List ℕ → Bool
rising? f prev [] = true
rising? f prev (x ∷ xs) =
    let zeros = zeros? xs in
    let more = ltb prev x && (f x && rising? f x xs) in
    cond (eqb x 0) zeros more

-- edges that rise so
unfoldable pub rising_edges? : ℕ → ℕ → List ℕ → Bool
rising_edges? vertices prev xs = rising? (edge? vertices) prev xs

-- what check 3 lets pass: at most 1,024 slots, of rising edges of this graph and then zeros. (A rising edge is above 0.)
unfoldable pub edge_memory? : ℕ → List ℕ → Bool
edge_memory? vertices xs = leb (length xs) most_edges && rising_edges? vertices 0 xs

-- an edge put in before the first that is not below it, and an edge taken out
unfoldable pub insert_edge : ℕ → List ℕ → List ℕ
insert_edge x [] = x ∷ []
insert_edge x (y ∷ ys) = let more = y ∷ insert_edge x ys in cond (ltb y x) more (x ∷ y ∷ ys)

unfoldable pub remove_edge : ℕ → List ℕ → List ℕ
remove_edge x [] = []
remove_edge x (y ∷ ys) = let more = y ∷ remove_edge x ys in cond (eqb y x) ys more
