-- Demand 2: replies are right on the record and index that the last accepted change left, for a pattern that repeats itself and for routes on its
-- edges too, and cards restore what they were written from.
use Rattle.std.specs.Prelude.{◌≡◌, ◌↔◌, ◌≢◌, ◌⊎◌, List, [], ◌++◌, ℕ, ◌+◌, ◌*◌, ◌≤◌, ◌<◌, length, take, drop}
use Rattle.model.specs.Limits.{most_vertices, most_edges, most_longest, least_work}
use Rattle.model.specs.Lists.{filled, Bytes}
use Rattle.model.specs.Edges.{Graph, standing, totals_of}
use Rattle.model.specs.Patterns.{Keyed, MinRepeat, Pattern}
use Rattle.model.specs.Walks.{Runs}
use Rattle.model.specs.Routes.{Route, Routed, Yes as RoutedYes, No as RoutedNo, Refused as RoutedRefused}
use Rattle.model.specs.Query.{Answered, Yes, No, Refused}
use Rattle.model.specs.Middles.{Middle, Least, No as TwoNo, Refused as TwoRefused}
use Rattle.model.specs.Computed.Entries.{determined}
use Rattle.calls.specs.Call.{Size, Header, Lacks, graph_of, Memory, lent, lent_out, Outcome, Returned, Length}
use Rattle.calls.specs.Route.{route_call}
use Rattle.calls.specs.Query.{full_call, query_call}
use Rattle.calls.specs.QueryTwo.{query_two_call}
use Rattle.calls.specs.Change.{open_call, insert_call, remove_call}
use Rattle.calls.specs.Card.{read_call, write_call}

-- "A yes or no is judged by the pattern as keyed" (document 02, Two): yes, and some walk spells it one or more whole times, or no, and none does
pub data Judged (g : Graph) (l : List ℕ) (s t : ℕ) : Answered → Type 0 where
  runs : Runs g l s t → Judged g l s t Yes
  runs_not : ¬ Runs g l s t → Judged g l s t No

-- what the route's call replies and leaves in walk memory (document 02, Three): yes with the route's edges, or 18 where they do not fit, or no, and
-- no walk runs the pattern
pub data Lit (g : Graph) (l : List ℕ) (s t : ℕ) (walk : List ℕ) : Routed → List ℕ → Type 0 where
  lit : (es : List ℕ) → Route g l s t es → length es ≤ length walk → Lit g l s t walk (RoutedYes (length es)) (es ++ drop (length es) walk)
  short : (es : List ℕ) → Route g l s t es → length walk < length es → Lit g l s t walk (RoutedRefused 18) walk
  none : ¬ Runs g l s t → Lit g l s t walk RoutedNo walk

-- what is lent suffices for a question by two patterns (document 02, Five): "3 and 4 if either pattern repeats itself"
pub data Suffices (edges first second other work : List ℕ) : Type 0 where
  written_once : MinRepeat first first → MinRepeat second second → Suffices edges first second other work
  as_left : other ≡ edges → least_work ≤ length work → Suffices edges first second other work

-- out by one pattern and home by another, put with the record, edge memory and index memory that a change left
pub record RightTwo (h : Header) (edges index : List ℕ) (g : Graph) (start destination : ℕ) (first second : List ℕ) : Type 0 where
  -- "the reply is yes exactly when some place m has a walk from the start running the first pattern and a walk from m to the destination running the
  -- second, each at least one whole time .. The lowest such m is given with the yes"
  pub least : start < g.vertices → destination < g.vertices → Keyed g.longest first → Keyed g.longest second
      → (other work : List ℕ) → Suffices edges first second other work
      → Least (Middle g first second start destination) (query_two_call h start destination first second (lent other index work)).reply
  -- with a label that no edge has in either it is a no, whatever memory is lent, and that is right
  pub lacking : start < g.vertices → destination < g.vertices → Keyed g.longest first → Keyed g.longest second
      → Lacks h.totals first ⊎ Lacks h.totals second → (m : Memory)
      → ((query_two_call h start destination first second m).reply ≡ TwoNo) × ((v : ℕ) → ¬ Middle g first second start destination v)
  -- every other question is refused: with those edges and less work memory; and, whatever is lent, with an end that is no vertex or by what is no pattern
  pub less : start < g.vertices → destination < g.vertices → Keyed g.longest first → Keyed g.longest second
      → ¬ (MinRepeat first first × MinRepeat second second) → ¬ (Lacks h.totals first ⊎ Lacks h.totals second)
      → (work : List ℕ) → length work < least_work → (query_two_call h start destination first second (lent edges index work)).reply ≡ TwoRefused 4
  pub ends : ¬ ((start < g.vertices) × (destination < g.vertices)) → (m : Memory) → (query_two_call h start destination first second m).reply ≡ TwoRefused 10
  pub patterns : start < g.vertices → destination < g.vertices → ¬ (Keyed g.longest first × Keyed g.longest second) → (m : Memory)
      → (query_two_call h start destination first second m).reply ≡ TwoRefused 11

-- (a) queries (questions) put with the record, edge memory and index memory that a change left; the edges that then stand are those of the graph
pub record Right (h : Header) (edges index : List ℕ) (g : Graph) : Type 0 where
  -- document 02, Four: the totals are those "of its standing legs"
  pub totals : h.totals ≡ totals_of g.edges
  -- a pattern that is its own minimum repeat is judged rightly whatever edge and work memory are lent
  pub once : (start destination : ℕ) (pattern : List ℕ) → start < g.vertices → destination < g.vertices → Pattern g.longest pattern
      → (other work : List ℕ) → Judged g pattern start destination (query_call h start destination pattern (lent other index work)).reply
  -- "for a pattern that repeats itself, demand 2 supposes the legs too as the last accepted change left them", and work memory of 4,096 numbers
  pub repeating : (start destination : ℕ) (pattern : List ℕ) → start < g.vertices → destination < g.vertices → Keyed g.longest pattern
      → ¬ MinRepeat pattern pattern → (work : List ℕ) → least_work ≤ length work
      → Judged g pattern start destination (query_call h start destination pattern (lent edges index work)).reply
  -- a label that no edge has is a no, whatever memory is lent (`Meaning.lacking` says it of any record), and that is right
  pub lacking : (start destination : ℕ) (pattern : List ℕ) → start < g.vertices → destination < g.vertices → Keyed g.longest pattern
      → Lacks h.totals pattern → (m : Memory) → ((query_call h start destination pattern m).reply ≡ No) × ¬ Runs g pattern start destination
  -- "For records and memory as the last accepted change left them, this equals the full reply unless that would be refusal 4"
  pub full : (start destination : ℕ) (pattern work : List ℕ) →
      let reply = (full_call h.size start destination pattern (lent edges index work)).reply in
      reply ≢ Refused 4 → (query_call h start destination pattern (lent edges index work)).reply ≡ reply
  -- every other question is refused: by a pattern that repeats itself and lacks no label, with those edges and less work memory; and, whatever is
  -- lent, with an end that is no vertex or by what is no pattern
  pub less : (start destination : ℕ) (pattern : List ℕ) → start < g.vertices → destination < g.vertices → Keyed g.longest pattern
      → ¬ MinRepeat pattern pattern → ¬ Lacks h.totals pattern → (work : List ℕ) → length work < least_work
      → (query_call h start destination pattern (lent edges index work)).reply ≡ Refused 4
  pub ends : (start destination : ℕ) (pattern : List ℕ) → ¬ ((start < g.vertices) × (destination < g.vertices))
      → (other work : List ℕ) → (query_call h start destination pattern (lent other index work)).reply ≡ Refused 10
  pub patterns : (start destination : ℕ) (pattern : List ℕ) → start < g.vertices → destination < g.vertices → ¬ Keyed g.longest pattern
      → (other work : List ℕ) → (query_call h start destination pattern (lent other index work)).reply ≡ Refused 11
  -- routes on that record and edge memory, with work memory of 4,096 numbers: the route's edges are given, and, where walk memory has 1,024 slots,
  -- exactly if the question is a yes
  pub routes : (start destination : ℕ) (pattern : List ℕ) → start < g.vertices → destination < g.vertices → Keyed g.longest pattern
      → (walk work : List ℕ) → least_work ≤ length work →
      let c = route_call h.size start destination pattern (lent_out edges work walk) in
      Lit g pattern start destination walk c.reply c.memory.output
  pub given : (start destination : ℕ) (pattern : List ℕ) → start < g.vertices → destination < g.vertices → Keyed g.longest pattern
      → (walk work : List ℕ) → least_work ≤ length work → most_longest * most_vertices ≤ length walk
      → ((query_call h start destination pattern (lent edges index work)).reply ≡ Yes)
      ↔ ((n : ℕ) × ((route_call h.size start destination pattern (lent_out edges work walk)).reply ≡ RoutedYes n))
  pub two : (start destination : ℕ) (first second : List ℕ) → RightTwo h edges index g start destination first second

-- put with the record that a change handed back and the memory that it left, to the edges that stand in the edge memory that it left
abbrev pub RightAfter : Outcome Returned → Type 0
RightAfter c = Right c.reply.header c.memory.edges c.memory.index (graph_of c.reply.header.size (standing c.memory.edges))

-- (b) what reading gives of a card that was written
pub record Restores (size : Size) (edges : List ℕ) (m : Memory) (c : Outcome Returned) : Type 0 where
  pub accepted : c.reply.answer ≡ 0
  pub size_back : c.reply.header.size ≡ size
  -- "a card read back restores the totals too": those of the edges that it was written from, and so of every record that a change left (`Right.totals`)
  pub totals_back : c.reply.header.totals ≡ totals_of (standing edges)
  pub edges_back : c.memory.edges ≡ filled (length m.edges) (standing edges)
  pub index_back : c.memory.index ≡ filled (length m.index) (determined (graph_of size (standing edges)))

-- memory that a reading of so many edges and entries needs
pub record Roomy (m : Memory) (edges entries : ℕ) : Type 0 where
  pub edge_slots_lem : edges ≤ length m.edges
  pub few : length m.edges ≤ most_edges
  pub index_slots_lem : entries ≤ length m.index
  pub work : least_work + length m.index ≤ length m.work

pub record Demand2 : Type 0 where
  -- after each accepted change, whatever record and memory it was given. (So after any list of calls: `Accounted.right`, traces)
  pub opens : (h : Header) (m : Memory) → (open_call h m).reply.answer ≡ 0 → RightAfter (open_call h m)
  pub inserts : (h : Header) (from label to : ℕ) (m : Memory) → (insert_call h from label to m).reply.answer ≡ 0 → RightAfter (insert_call h from label to m)
  pub removes : (h : Header) (from label to : ℕ) (m : Memory) → (remove_call h from label to m).reply.answer ≡ 0 → RightAfter (remove_call h from label to m)
  pub reads : (bytes : List ℕ) (m : Memory) → Bytes bytes → (read_call bytes m).reply.answer ≡ 0 → RightAfter (read_call bytes m)
  -- a card that was written, read again
  pub reading : (size : Size) (w : Memory) (n : ℕ) (m : Memory) → (write_call size w).reply ≡ Length n
      → Roomy m (length (standing w.edges)) (length (determined (graph_of size (standing w.edges))))
      → Restores size w.edges m (read_call (take n (write_call size w).memory.output) m)
  -- (c) a card that was read, written again: its length, its bytes, and the rest of the output untouched
  pub writing : (bytes output : List ℕ) (m : Memory) → Bytes bytes → (read_call bytes m).reply.answer ≡ 0 → length bytes ≤ length output →
      let c = read_call bytes m in
      let w = write_call c.reply.header.size (lent_out c.memory.edges [] output) in
      (w.reply ≡ Length (length bytes)) × (w.memory.output ≡ bytes ++ drop (length bytes) output)
