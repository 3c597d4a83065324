-- Work memory of the route's search: numbers 0 to 1,023 hold at each state its place in the queue, or 0; and from number 1,024 on stands the
-- queue, in the order in which states were reached, the start first. A queued number has the place of the node before, the state, and the edge
-- that led there.
use Rattle.std.specs.Prelude.{◌≡◌, List, ◌∷◌, ◌++◌, ℕ, suc, ◌+◌, ◌*◌, ◌/◌, ◌%◌, ◌^◌, ◌≤◌, ◌<◌, length, get_or, set}
use Rattle.model.specs.Limits.{least_work}
use Rattle.model.specs.Edges.{Graph}
use Rattle.model.specs.Computed.Levels.{most_states}
use Rattle.model.specs.Computed.Routes.{Node, start_node}
use Rattle.model.specs.Queue.{StepBy, Queued, Mid, Going}

-- the units of a queued number's fields. An edge is below the first, and so many states fit between the two
abbrev pub state_unit : ℕ
state_unit = 2 ^ 32

abbrev pub before_unit : ℕ
before_unit = 2 ^ 48

abbrev pub queued_number : (before x edge : ℕ) → ℕ
queued_number before x edge = before * before_unit + x * state_unit + edge

-- the fields of any number
abbrev pub before_of : ℕ → ℕ
before_of x = x / before_unit

abbrev pub state_of : ℕ → ℕ
state_of x = x / state_unit % (before_unit / state_unit)

abbrev pub edge_of : ℕ → ℕ
edge_of x = x % state_unit

-- the number at place k, and its fields
abbrev pub queued_at : List ℕ → ℕ → ℕ
queued_at w k = get_or w (most_states + k) 0

abbrev pub before_at : List ℕ → ℕ → ℕ
before_at w k = before_of (queued_at w k)

abbrev pub state_at : List ℕ → ℕ → ℕ
state_at w k = state_of (queued_at w k)

abbrev pub edge_into : List ℕ → ℕ → ℕ
edge_into w k = edge_of (queued_at w k)

-- ---- work memory holds nodes

-- the k-th node
abbrev pub node_at : ℕ → List Node → ℕ → Node
node_at s nodes k = get_or nodes k (start_node s)

-- node k is one edge behind an earlier node
pub record Link (s : ℕ) (w : List ℕ) (nodes : List Node) (k : ℕ) : Type 0 where
  pub before : ℕ
  pub edge : ℕ
  pub earlier : before < k
  pub small : edge < state_unit
  pub is : queued_at w k ≡ queued_number before (node_at s nodes k).at edge
  pub back : (node_at s nodes k).back ≡ edge ∷ (node_at s nodes before).back

-- the place in the queue that a state's mark holds
pub record Marked (s : ℕ) (nodes : List Node) (y place : ℕ) : Type 0 where
  pub positive : 1 ≤ place
  pub inside : place < length nodes
  pub is : (node_at s nodes place).at ≡ y

pub record HoldsNodes (s : ℕ) (w : List ℕ) (nodes : List Node) : Type 0 where
  pub long : least_work ≤ length w
  pub root : node_at s nodes 0 ≡ start_node s
  pub state_of : (k : ℕ) → k < length nodes → state_at w k ≡ (node_at s nodes k).at
  pub link_of : (k : ℕ) → 1 ≤ k → k < length nodes → Link s w nodes k
  pub mark_none : (y : ℕ) → y < most_states → get_or w y 0 ≡ 0 → ¬ Queued nodes y
  pub mark_some : (y : ℕ) → y < most_states → ¬ (get_or w y 0 ≡ 0) → Marked s nodes y (get_or w y 0)

-- ---- the search under way

-- n nodes are queued, and the first k of them have been taken
pub record Paused (g : Graph) (l : List ℕ) (s : ℕ) (w : List ℕ) (n k : ℕ) : Type 0 where
  pub done : List Node
  pub todo : List Node
  pub fresh : List ℕ
  pub going : Going g l s done todo (done ++ todo) fresh
  pub holds : HoldsNodes s w (done ++ todo)
  pub at : length done ≡ k
  pub count : length (done ++ todo) ≡ n
  pub size : n + length fresh ≤ suc most_states

-- node k, at state a, is being taken, and its edges before slot i are done
pub record During (g : Graph) (l : List ℕ) (s : ℕ) (w : List ℕ) (n k a i : ℕ) : Type 0 where
  pub done : List Node
  pub node : Node
  pub todo : List Node
  pub fresh : List ℕ
  pub bound : ℕ
  pub mid : Mid g l s (done ++ node ∷ todo) node fresh bound
  pub holds : HoldsNodes s w (done ++ node ∷ todo)
  pub at : length done ≡ k
  pub count : length (done ++ node ∷ todo) ≡ n
  pub size : n + length fresh ≤ suc most_states
  pub is : node.at ≡ a
  pub from : (j : ℕ) → i ≤ j → j < length g.edges → bound ≤ get_or g.edges j 0
  pub all : (x z : ℕ) → bound ≤ x → StepBy g l a x z → (j : ℕ) × (i ≤ j) × (j < length g.edges) × (get_or g.edges j 0 ≡ x)

-- what reaching the state y from node k by an edge does
pub record Enqueues (w : List ℕ) (y k edge n : ℕ) (w' : List ℕ) (n' : ℕ) : Type 0 where
  pub old : ¬ (get_or w y 0 ≡ 0) → (w' ≡ w) × (n' ≡ n)
  pub new : get_or w y 0 ≡ 0 → (w' ≡ set (set w y n) (most_states + n) (queued_number k y edge)) × (n' ≡ suc n)
