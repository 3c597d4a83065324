-- What the route's search goes by (Computed/Routes): what its queue is at each time. Each node has the first walk to its state, the nodes stand in
-- the order of these walks, and all walks before a cursor are looked at.
use Rattle.std.specs.Prelude.{◌≡◌, ◌⊎◌, ℕ, ◌≤◌, ◌<◌, length, get_or}
use mathlib.Core.List.{List, [], ◌∷◌, ◌++◌, Memᴰ}
use Rattle.model.specs.Lists.{◌∈◌, Sorted}
use Rattle.model.specs.Edges.{Graph, edge_number, to_of}
use Rattle.model.specs.States.{state, vertex_of, used_of}
use Rattle.model.specs.Computed.Levels.{states}
use Rattle.model.specs.Computed.Routes.{ahead, Node, start_node}

-- the order of walks: fewer edges first, and among equals by the edges from the start. Walks are given by their edges, the last one first,
-- so a walk is before another where its part without the last edge is, or where these are the same and its last edge is lower
infix 50 ◌≺◌
pub data ◌≺◌ : List ℕ → List ℕ → Type 0 where
  none : {f : ℕ} {q : List ℕ} → [] ≺ (f ∷ q)
  early : {e f : ℕ} {p q : List ℕ} → p ≺ q → (e ∷ p) ≺ (f ∷ q)
  last : {e f : ℕ} {p q : List ℕ} → p ≡ q → e < f → (e ∷ p) ≺ (f ∷ q)

-- before or the same
infix 50 ◌≼◌
pub data ◌≼◌ : List ℕ → List ℕ → Type 0 where
  same : {p q : List ℕ} → p ≡ q → p ≼ q
  before : {p q : List ℕ} → p ≺ q → p ≼ q

-- x is an edge of the next label from the state a, and leads to z
pub record StepBy (g : Graph) (l : List ℕ) (a x z : ℕ) : Type 0 where
  pub stands : x ∈ g.edges
  pub number : x ≡ edge_number (vertex_of a) (get_or l (used_of a) 0) (to_of x)
  pub to : to_of x < g.vertices
  pub is : z ≡ ahead l a x

-- a walk from (s, 0) to a state, with its edges, the last one first
pub data WalkBack (g : Graph) (l : List ℕ) (s : ℕ) : ℕ → List ℕ → Type 0 where
  start : WalkBack g l s (state s 0) []
  on : {a x z : ℕ} {p : List ℕ} → WalkBack g l s a p → StepBy g l a x z → WalkBack g l s z (x ∷ p)

infix 50 ◌∈ⁿ◌
abbrev pub ◌∈ⁿ◌ : Node → List Node → Type 0
n ∈ⁿ ns = Memᴰ n ns

-- a walk with an edge to z is queued
pub record Queued (nodes : List Node) (z : ℕ) : Type 0 where
  pub node : Node
  pub among : node ∈ⁿ nodes
  pub is : node.at ≡ z
  pub long : 1 ≤ length node.back

-- the start is a node, and every other node has the first walk to its state
pub record FirstWalks (g : Graph) (l : List ℕ) (s : ℕ) (nodes : List Node) : Type 0 where
  pub rooted : start_node s ∈ⁿ nodes
  pub walks : (n : Node) → n ∈ⁿ nodes → WalkBack g l s n.at n.back
  pub least : (n : Node) → n ∈ⁿ nodes → 1 ≤ length n.back → (q : List ℕ) → WalkBack g l s n.at q → 1 ≤ length q → n.back ≼ q

-- and each walk of one edge more that is before the cursor c ends in a state that is queued
pub record Searched (g : Graph) (l : List ℕ) (s : ℕ) (nodes : List Node) (c : List ℕ) : Type 0 where
  pub firsts : FirstWalks g l s nodes
  pub closed : (n : Node) → n ∈ⁿ nodes → (x z : ℕ) → StepBy g l n.at x z → (x ∷ n.back) ≺ c → Queued nodes z

-- the fresh states are those that are not queued
pub record Unreached (g : Graph) (l : List ℕ) (nodes : List Node) (fresh : List ℕ) : Type 0 where
  pub unmet : (z : ℕ) → z ∈ fresh → ¬ Queued nodes z
  pub rest : (z : ℕ) → z ∈ states g l → (z ∈ fresh) ⊎ Queued nodes z

abbrev pub Earlier : Node → Node → Type 0
Earlier m n = m.back ≺ n.back

-- node p is at hand, with its edges below b taken
pub record Mid (g : Graph) (l : List ℕ) (s : ℕ) (nodes : List Node) (p : Node) (fresh : List ℕ) (b : ℕ) : Type 0 where
  pub among : p ∈ⁿ nodes
  pub searched : Searched g l s nodes (b ∷ p.back)
  pub sorted : Sorted Earlier nodes
  pub under : (n : Node) → n ∈ⁿ nodes → n.back ≺ (b ∷ p.back)
  pub left : Unreached g l nodes fresh

-- between two nodes: all edges of the nodes in done are taken
pub record Going (g : Graph) (l : List ℕ) (s : ℕ) (done todo nodes : List Node) (fresh : List ℕ) : Type 0 where
  pub parts : nodes ≡ done ++ todo
  pub firsts : FirstWalks g l s nodes
  pub closed : (n : Node) → n ∈ⁿ done → (x z : ℕ) → StepBy g l n.at x z → Queued nodes z
  pub sorted : Sorted Earlier nodes
  pub near : (n m : Node) → n ∈ⁿ nodes → m ∈ⁿ todo → n.back ≺ (0 ∷ m.back)
  pub left : Unreached g l nodes fresh
