-- Meaning: document 01's own words and the definitions that compute. The demands and contracts speak of the latter; here each is tied to the
-- sentence that it stands for, for every graph of 1 to 256 vertices whose longest pattern is 1 to 4.
use Rattle.std.specs.Prelude.{◌≡◌, ◌↔◌, ◌≢◌, true, List, ℕ, suc, ◌-◌, ◌≤◌, ◌<◌, length, get_or}
use Rattle.model.specs.Limits.{most_edges, most_label, most_longest, enough_levels, hub_unit}
use Rattle.model.specs.Lists.{◌∈◌, Sorted, Rising, Padded}
use Rattle.model.specs.Edges.{Graph, Bounds, label_of, OfEdge, standing, totals_of}
use Rattle.model.specs.Patterns.{times, Keyed, MinRepeat}
use Rattle.model.specs.Walks.{Spells, Runs}
use Rattle.model.specs.Order.{weight, Before, Names}
use Rattle.model.specs.Entries.{IsEntry}
use Rattle.model.specs.Query.{Coded, OfEntry, Answers, Yes as AnsweredYes, No}
use Rattle.model.specs.Middles.{Least}
use Rattle.model.specs.Routes.{Yes as RoutedYes, Refused}
use Rattle.model.specs.States.{Yes, state, Reply}
use Rattle.model.specs.Computed.Edges.{edge_memory?}
use Rattle.model.specs.Computed.Patterns.{keyed?, min_repeat, times_written}
use Rattle.model.specs.Computed.Order.{counted}
use Rattle.model.specs.Computed.Levels.{level}
use Rattle.model.specs.Computed.Entries.{determined}
use Rattle.model.specs.Computed.Query.{code?, index_memory?, answers?}
use Rattle.model.specs.Levels.{Reached, Told, Decides}
use Rattle.calls.specs.Call.{Size, Header, Lacks, graph_of, Memory}
use Rattle.calls.specs.Search.{search_call}
use Rattle.calls.specs.Route.{route_call}
use Rattle.calls.specs.Query.{query_call}
use Rattle.calls.specs.QueryTwo.{query_two_call}
use Rattle.demands.specs.Demand1.{search_number, query_number, two_number}
use Rattle.demands.specs.Demand2.{Judged, Lit}

-- what an accepted plain check (level search) replies
pub record Replies (g : Graph) (l : List ℕ) (s t limit : ℕ) (r : Reply) : Type 0 where
  -- "Yes c: ..", "No c: ..", "If neither c is within the allowance, the reply is spent, with the allowance."
  pub told : Told g l s t limit r
  -- "An allowance of 1,025 always gives yes or no", and yes exactly if a walk runs the pattern
  pub decides : enough_levels ≤ limit → Decides g l s t r

-- the single question is a yes
abbrev pub Said : Header → (start destination : ℕ) → List ℕ → Memory → Type 0
Said h start destination pattern m = (query_call h start destination pattern m).reply ≡ AnsweredYes

-- of a graph
pub record GraphMeaning (g : Graph) : Type 0 where
  -- "sorts places by (legs out + 1) × (legs in + 1), largest first, lower place first among equals"
  pub sorts : Sorted (Before (weight g)) (counted g)
  pub names : Names g.vertices (counted g)
  -- "For every L .. and every s and t joined by a walk running L, .. The index has no other entries"; "Entries rise strictly"
  pub entries : (e : ℕ) → (e ∈ determined g) ↔ IsEntry g (counted g) e
  pub rises : Rising (determined g)
  -- what check 3 lets pass: at most 1,024 slots, "rising legs of this layout then zeros"
  pub edge_memory : (edges : List ℕ)
      → (edge_memory? g.vertices edges ≡ true) ↔ ((length edges ≤ most_edges) × Padded (OfEdge g.vertices) edges)
  -- and check 12: "rising entries then zeros", each code that of "a pattern of at most k that is its own minimum repeat"
  pub index_memory : (index : List ℕ)
      → (index_memory? g.vertices g.longest index ≡ true) ↔ Padded (OfEntry g.vertices g.longest) index
  pub codes : (number : ℕ) → number < hub_unit → (code? g.longest number ≡ true) ↔ Coded g.longest number

pub record Meaning : Type 0 where
  -- "A pattern is 1 to k colours."
  pub keyed : (k : ℕ) (l : List ℕ) → (keyed? k l ≡ true) ↔ Keyed k l
  -- "the shortest pattern which, written some whole number of times, gives it": the one computed, and no other
  pub repeat : (l m : List ℕ) → 1 ≤ length l → MinRepeat l m ↔ (min_repeat l ≡ m)
  -- document 02, Two: "how many times it was written"
  pub written : (l m : List ℕ) (j : ℕ) → Keyed most_longest l → MinRepeat l m → (times j m ≡ l) ↔ (j ≡ times_written l)
  -- "It runs pattern L if its colours spell L one or more whole times."
  pub runs : (g : Graph) (l : List ℕ) (s t : ℕ) → Runs g l s t ↔ ((j : ℕ) × Spells g s (times (suc j) l) t)
  -- "1 to 256 places", "The longest pattern k is 1 to 4"
  pub graphs : (g : Graph) → Bounds g.vertices g.longest → GraphMeaning g
  -- "yes if the out list of s has (t, L), or the in list of t has (s, L), or some hub stands with L in both"
  pub answers : (vertices : ℕ) (index l : List ℕ) (s t : ℕ) → (answers? vertices index l s t ≡ true) ↔ Answers vertices index l s t
  -- "level 0 is the pair (s, 0)"; "Level i+1 is every (place, colours of L used so far ..) that .. and that is in none of levels 1 to i"
  pub level_zero : (g : Graph) (l : List ℕ) (s z : ℕ) → (z ∈ level g l s 0) ↔ (z ≡ state s 0)
  pub level_next : (g : Graph) (l : List ℕ) (s i z : ℕ) → (z ∈ level g l s (suc i)) ↔ Reached g l s i z
  -- a plain check that is not refused, by the pattern as keyed
  pub searches : (size : Size) (start destination : ℕ) (pattern : List ℕ) (limit : ℕ) (m : Memory) →
      let r = (search_call size start destination pattern limit m).reply in
      search_number r ≡ 0 → Replies (graph_of size (standing m.edges)) pattern start destination limit r
  -- document 02, Two: a question by a pattern that repeats itself and lacks no label, on whatever record and memory, that is not refused
  pub queries : (h : Header) (start destination : ℕ) (pattern : List ℕ) (m : Memory) → ¬ MinRepeat pattern pattern → ¬ Lacks h.totals pattern →
      let r = (query_call h start destination pattern m).reply in
      query_number r ≡ 0 → Judged (graph_of h.size (standing m.edges)) pattern start destination r
  -- document 02, Four: a total is 0 exactly if no edge has the label
  pub total_zero : (edges : List ℕ) (c : ℕ) → 1 ≤ c → c ≤ most_label
      → (get_or (totals_of edges) (c - 1) 0 ≡ 0) ↔ ((x : ℕ) → x ∈ edges → label_of x ≢ c)
  -- "A question with a colour whose total is 0 is a no without reading the index, and checks 12, 3 and 4 are skipped for it": once 1 2 10 11 pass, on
  -- whatever record and memory, which stays as found
  pub lacking : (h : Header) (start destination : ℕ) (pattern : List ℕ) (m : Memory) → Bounds h.size.vertices h.size.longest
      → start < h.size.vertices → destination < h.size.vertices → Keyed h.size.longest pattern → Lacks h.totals pattern
      → query_call h start destination pattern m ≡ record { reply = No; memory = m }
  -- document 02, Five: two patterns, on whatever record and memory, that are not refused: "m counts where the two single questions, from the start to m
  -- and from m to the destination, would both be a yes"; "The lowest such m is given with the yes"
  pub two : (h : Header) (start destination : ℕ) (first second : List ℕ) (m : Memory) →
      let r = (query_two_call h start destination first second m).reply in
      two_number r ≡ 0
      → Least (λ v. (v < h.size.vertices) × (Said h start v first m × Said h v destination second m)) r
  -- document 02, Three: "The checks are the plain check's", and past them the route is given, on whatever record and memory
  pub routes : (size : Size) (start destination : ℕ) (pattern : List ℕ) (limit : ℕ) (m : Memory) →
      let n = search_number (search_call size start destination pattern limit m).reply in
      let c = route_call size start destination pattern m in
      (1 ≤ n → c.reply ≡ Refused n)
      × (n ≡ 0 → Lit (graph_of size (standing m.edges)) pattern start destination m.output c.reply c.memory.output)
  -- it has as many edges as the plain check's yes has levels
  pub lengths : (size : Size) (start destination : ℕ) (pattern : List ℕ) (limit : ℕ) (m : Memory) (n : ℕ) → enough_levels ≤ limit
      → (route_call size start destination pattern m).reply ≡ RoutedYes n → (search_call size start destination pattern limit m).reply ≡ Yes n
