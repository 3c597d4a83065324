-- The starred trial runs of document 01, layout A's slots, and what document 02 says of patterns keyed twice, of routes and of totals, as one table of
-- cases, put to the calls' definitions.
use Rattle.std.specs.Prelude.{Bool, true, false, not, ◌&&◌, List, [], ◌∷◌, ℕ, ◌+◌, eqb, length, replicate}
use Rattle.model.specs.Limits.{least_work, enough_levels}
use Rattle.model.specs.Edges.{edge_number, standing, totals_of}
use Rattle.model.specs.Query.{Answered, Yes as AnsweredYes, No as AnsweredNo, Refused as AnsweredRefused}
use Rattle.model.specs.Routes.{Routed, Yes as RoutedYes, No as RoutedNo, Refused as RoutedRefused}
use Rattle.model.specs.States.{Reply, Yes, No, Spent, Refused}
use Rattle.model.specs.Computed.Lists.{same?}
use Rattle.model.specs.Computed.Edges.{remove_edge}
use Rattle.model.specs.Computed.Patterns.{min_repeat, times_written}
use Rattle.model.specs.Computed.Entries.{determined}
use Rattle.calls.specs.Call.{Size, Header, Memory, lent, lent_out, Outcome, Returned}
use Rattle.calls.specs.Search.{search_call}
use Rattle.calls.specs.Route.{route_call}
use Rattle.calls.specs.Query.{query_call}
use Rattle.calls.specs.Change.{remove_call}
use Rattle.calls.specs.Card.{read_call}

-- a layout as a call meets it: vertices, k and edge memory
pub record TrialLayout : Type 0 where
  pub vertices : ℕ
  pub longest : ℕ
  pub edges : List ℕ

-- "Layout A is the card above": edges 0-1-1, 1-1-2, 1-2-0
unfoldable pub A : TrialLayout
A = record { vertices = 3; longest = 2; edges = 257 ∷ 4354 ∷ 4608 ∷ [] }

-- "The slots are": A's index memory, of five slots
unfoldable pub slots_a : List ℕ
slots_a = 18 ∷ 65537 ∷ 16842785 ∷ 4295032834 ∷ 4328587265 ∷ []

-- that memory damaged: its first two slots swapped, so that it does not rise
unfoldable pub damaged_a : List ℕ
damaged_a = 65537 ∷ 18 ∷ 16842785 ∷ 4295032834 ∷ 4328587265 ∷ []

-- "Card, in hexadecimal: 50 52 43 00 01 02 02 00 03 00 01 01 01 01 02 01 02 00"
unfoldable pub card_a : List ℕ
card_a = 80 ∷ 82 ∷ 67 ∷ 0 ∷ 1 ∷ 2 ∷ 2 ∷ 0 ∷ 3 ∷ 0 ∷ 1 ∷ 1 ∷ 1 ∷ 1 ∷ 2 ∷ 1 ∷ 2 ∷ 0 ∷ []

-- "One place, k 1, leg 0-1-0"
unfoldable pub loop : TrialLayout
loop = record { vertices = 1; longest = 1; edges = 256 ∷ [] }

-- "Layout B: 8 places, k 1, legs 0-1-2, 0-1-3, 0-2-4, 1-1-0, 5-2-1, 6-2-1, 7-2-1"
unfoldable pub B : TrialLayout
B = record { vertices = 8; longest = 1; edges = 258 ∷ 259 ∷ 516 ∷ 4352 ∷ 20993 ∷ 25089 ∷ 29185 ∷ [] }

-- "Lifting 0-2-4": layout B without that edge
unfoldable pub removed_b : TrialLayout
removed_b = record { vertices = 8; longest = 1; edges = remove_edge (edge_number 0 2 4) B.edges }

-- document 02, Two: "With the single leg 0-1-1", with that and 1-1-2, and with a loop, all with k 2
unfoldable pub one_leg : TrialLayout
one_leg = record { vertices = 2; longest = 2; edges = 257 ∷ [] }

unfoldable pub two_legs : TrialLayout
two_legs = record { vertices = 3; longest = 2; edges = 257 ∷ 4354 ∷ [] }

unfoldable pub loop_two : TrialLayout
loop_two = record { vertices = 1; longest = 2; edges = 256 ∷ [] }

-- two ways of two legs from 0 to 3, over 1 and over 2: 0-1-1, 0-1-2, 1-1-3, 2-1-3
unfoldable pub two_ways : TrialLayout
two_ways = record { vertices = 4; longest = 1; edges = 257 ∷ 258 ∷ 4355 ∷ 8451 ∷ [] }

-- Fig. 2 of paper 004, vertex v + 1 there being v here: edges 0-1-1, 0-2-2, 1-1-4, 1-2-4, 2-1-1, 2-1-5, 2-2-0, 2-2-3, 3-1-0, 3-3-5, 4-1-0
unfoldable pub figure2 : TrialLayout
figure2 = record { vertices = 6; longest = 2; edges = 257 ∷ 514 ∷ 4356 ∷ 4612 ∷ 8449 ∷ 8453 ∷ 8704 ∷ 8707 ∷ 12544 ∷ 13061 ∷ 16640 ∷ [] }

-- Table II there, the index that its authors print: first L_out, then L_in, by owner, hub and pattern
unfoldable pub table_ii : List ℕ
table_ii =
    1 ∷ 2 ∷ 33 ∷ 16777217 ∷ 16777249 ∷ 33554433 ∷ 33554434 ∷ 33554465 ∷ 33685522
    ∷ 50331649 ∷ 50462738 ∷ 67108865 ∷ 67239954 ∷ 4311744513 ∷ 4311744545 ∷ 4328521730 ∷ 4328521746 ∷ 4345298946
    ∷ 4362076161 ∷ 4362076178 ∷ 4362141698 ∷ 4362207250 ∷ 4378853409 ∷ 4378984449 ∷ 4378984483 ∷ 4379049987
    ∷ []

-- "the entries that they determine": those of a layout's edges
unfoldable pub entries_of : TrialLayout → List ℕ
entries_of y = determined (record { vertices = y.vertices; longest = y.longest; edges = standing y.edges })

pub data Case : Type 0 where
  -- a pattern, and its minimum repeat
  repeats : (pattern expected : List ℕ) → Case
  -- a pattern, and how many times its minimum repeat was written
  written : (pattern : List ℕ) (expected : ℕ) → Case
  -- a plain check on a layout, from start to destination by a pattern with an allowance, and its reply
  searches : (y : TrialLayout) (start destination : ℕ) (pattern : List ℕ) (limit : ℕ) (expected : Reply) → Case
  -- a question on a layout with its record, its edge memory and an index memory, from start to destination by a pattern, and whether it is yes
  queries : (y : TrialLayout) (index : List ℕ) (start destination : ℕ) (pattern : List ℕ) (expected : Bool) → Case
  -- the same with a record that has those totals, and the number of the refusal
  refuses : (y : TrialLayout) (totals index : List ℕ) (start destination : ℕ) (pattern : List ℕ) (number : ℕ) → Case
  -- a route on a layout, from start to destination by a pattern, with walk memory of that content; its reply, and what walk memory holds then
  routes : (y : TrialLayout) (start destination : ℕ) (pattern walk : List ℕ) (expected : Routed) (after : List ℕ) → Case
  -- a layout, and the entries that its edges determine
  indexed : (y : TrialLayout) (expected : List ℕ) → Case
  -- a layout, and how many entries it needs
  counts : (y : TrialLayout) (expected : ℕ) → Case
  -- a card read into so many edge slots and index slots, and the number and edge and index memory that it leaves
  reads : (card : List ℕ) (slots room number : ℕ) (edges index : List ℕ) → Case
  -- a card read likewise, and the record that it hands back: vertices, k and totals
  hands : (card : List ℕ) (slots room vertices longest : ℕ) (totals : List ℕ) → Case
  -- an edge removed (lifted) from a layout with so many index slots, and its number
  removes : (y : TrialLayout) (room from label to number : ℕ) → Case

unfoldable pub trials : List Case
trials =
    indexed A slots_a
    ∷ queries A slots_a 0 2 (1 ∷ []) true
    ∷ queries A slots_a 2 0 (1 ∷ []) false
    ∷ queries A slots_a 0 0 (1 ∷ 2 ∷ []) true
    ∷ queries A slots_a 0 0 (1 ∷ []) false
    ∷ queries A slots_a 0 0 (2 ∷ 1 ∷ []) false
    ∷ repeats (1 ∷ 2 ∷ 1 ∷ 2 ∷ []) (1 ∷ 2 ∷ [])
    ∷ repeats (1 ∷ 2 ∷ 1 ∷ []) (1 ∷ 2 ∷ 1 ∷ [])
    ∷ searches A 0 2 (1 ∷ []) 0 (Spent 0)
    ∷ searches A 0 2 (1 ∷ []) 1 (Spent 1)
    ∷ searches A 0 2 (1 ∷ []) 2 (Yes 2)
    ∷ searches A 2 0 (1 ∷ []) 1 (No 1)
    ∷ indexed loop (1 ∷ [])
    ∷ counts B 7
    ∷ counts removed_b 8
    ∷ reads card_a 3 5 0 A.edges slots_a
    ∷ reads card_a 3 4 13 (0 ∷ 0 ∷ 0 ∷ []) (0 ∷ 0 ∷ 0 ∷ 0 ∷ [])
    ∷ removes B 7 0 2 4 13
    ∷ removes B 8 0 2 4 0
    ∷ indexed figure2 table_ii
    ∷ written (1 ∷ 2 ∷ 1 ∷ 2 ∷ []) 2
    ∷ written (1 ∷ 2 ∷ 1 ∷ []) 1
    ∷ queries one_leg (entries_of one_leg) 0 1 (1 ∷ 1 ∷ []) false
    ∷ queries one_leg (entries_of one_leg) 0 1 (1 ∷ []) true
    ∷ queries two_legs (entries_of two_legs) 0 2 (1 ∷ 1 ∷ []) true
    ∷ queries two_legs (entries_of two_legs) 0 1 (1 ∷ 1 ∷ []) false
    ∷ queries loop_two (entries_of loop_two) 0 0 (1 ∷ 1 ∷ []) true
    ∷ searches one_leg 0 1 (1 ∷ 1 ∷ []) enough_levels (No 2)
    ∷ searches one_leg 0 1 (1 ∷ []) enough_levels (Yes 1)
    ∷ searches two_legs 0 2 (1 ∷ 1 ∷ []) enough_levels (Yes 2)
    ∷ searches two_legs 0 1 (1 ∷ 1 ∷ []) enough_levels (No 3)
    ∷ searches loop_two 0 0 (1 ∷ 1 ∷ []) enough_levels (Yes 2)
    ∷ routes A 0 0 (1 ∷ 2 ∷ []) (7 ∷ 7 ∷ 7 ∷ []) (RoutedYes 2) (257 ∷ 4608 ∷ 7 ∷ [])
    ∷ routes A 0 2 (1 ∷ []) (7 ∷ 7 ∷ []) (RoutedYes 2) (257 ∷ 4354 ∷ [])
    ∷ routes A 2 0 (1 ∷ []) (7 ∷ 7 ∷ []) RoutedNo (7 ∷ 7 ∷ [])
    ∷ routes A 0 0 (1 ∷ 2 ∷ []) (7 ∷ []) (RoutedRefused 18) (7 ∷ [])
    ∷ routes two_ways 0 3 (1 ∷ []) (7 ∷ 7 ∷ []) (RoutedYes 2) (257 ∷ 4355 ∷ [])
    ∷ routes one_leg 0 1 (1 ∷ 1 ∷ []) (7 ∷ 7 ∷ []) RoutedNo (7 ∷ 7 ∷ [])
    ∷ routes loop_two 0 0 (1 ∷ 1 ∷ []) (7 ∷ 7 ∷ []) (RoutedYes 2) (256 ∷ 256 ∷ [])
    ∷ hands card_a 3 5 3 2 (2 ∷ 1 ∷ 0 ∷ 0 ∷ 0 ∷ 0 ∷ 0 ∷ 0 ∷ [])
    ∷ queries A slots_a 0 1 (3 ∷ []) false
    ∷ queries A damaged_a 0 1 (3 ∷ []) false
    ∷ refuses A (2 ∷ 1 ∷ 1 ∷ 0 ∷ 0 ∷ 0 ∷ 0 ∷ 0 ∷ []) damaged_a 0 1 (3 ∷ []) 12
    ∷ []

-- the two replies are the same
unfoldable pub same_reply? : Reply → Reply → Bool
same_reply? (Yes a) (Yes b) = eqb a b
same_reply? (Yes a) (No b) = false
same_reply? (Yes a) (Spent b) = false
same_reply? (Yes a) (Refused b) = false
same_reply? (No a) (Yes b) = false
same_reply? (No a) (No b) = eqb a b
same_reply? (No a) (Spent b) = false
same_reply? (No a) (Refused b) = false
same_reply? (Spent a) (Yes b) = false
same_reply? (Spent a) (No b) = false
same_reply? (Spent a) (Spent b) = eqb a b
same_reply? (Spent a) (Refused b) = false
same_reply? (Refused a) (Yes b) = false
same_reply? (Refused a) (No b) = false
same_reply? (Refused a) (Spent b) = false
same_reply? (Refused a) (Refused b) = eqb a b

unfoldable pub same_routed? : Routed → Routed → Bool
same_routed? (RoutedYes a) (RoutedYes b) = eqb a b
same_routed? (RoutedYes a) RoutedNo = false
same_routed? (RoutedYes a) (RoutedRefused b) = false
same_routed? RoutedNo (RoutedYes b) = false
same_routed? RoutedNo RoutedNo = true
same_routed? RoutedNo (RoutedRefused b) = false
same_routed? (RoutedRefused a) (RoutedYes b) = false
same_routed? (RoutedRefused a) RoutedNo = false
same_routed? (RoutedRefused a) (RoutedRefused b) = eqb a b

-- the answer is yes if that is expected, and no if not
unfoldable pub same_answer? : Answered → Bool → Bool
same_answer? AnsweredYes expected = expected
same_answer? AnsweredNo expected = not expected
same_answer? (AnsweredRefused n) expected = false

-- it is a refusal with that number
unfoldable pub refused? : Answered → ℕ → Bool
refused? AnsweredYes number = false
refused? AnsweredNo number = false
refused? (AnsweredRefused n) number = eqb n number

-- edge, index and work memory: the edges given, so many index slots, and the least work memory that a build may have
unfoldable pub build_lent : List ℕ → ℕ → Memory
build_lent edges room = lent edges (replicate room 0) (replicate (least_work + room) 0)

abbrev pub trial_size : TrialLayout → Size
trial_size y = record { vertices = y.vertices; longest = y.longest }

-- the record as a change would leave it, and one with other totals
abbrev pub trial_header : TrialLayout → Header
trial_header y = record { size = trial_size y; totals = totals_of (standing y.edges) }

abbrev pub with_totals : TrialLayout → List ℕ → Header
with_totals y totals = record { size = trial_size y; totals = totals }

-- a change has that number, and leaves that edge and index memory
unfoldable pub leaves? : Outcome Returned → ℕ → List ℕ → List ℕ → Bool
leaves? c number edges index = eqb c.reply.answer number && (same? c.memory.edges edges && same? c.memory.index index)

-- a change hands back that record
unfoldable pub hands_back? : Outcome Returned → ℕ → ℕ → List ℕ → Bool
hands_back? c vertices longest totals =
    eqb c.reply.header.size.vertices vertices && (eqb c.reply.header.size.longest longest && same? c.reply.header.totals totals)

-- a route's reply, and walk memory afterwards; work memory is left zero
unfoldable pub lights? : Outcome Routed → Routed → List ℕ → Bool
lights? c expected after =
    same_routed? c.reply expected && (same? c.memory.output after && same? c.memory.work (replicate least_work 0))

-- the definition gives what the documents expect
unfoldable pub holds? : Case → Bool
holds? (repeats pattern expected) = same? (min_repeat pattern) expected
holds? (written pattern expected) = eqb (times_written pattern) expected
holds? (searches y s t pattern limit expected) =
    same_reply? (search_call (trial_size y) s t pattern limit (lent y.edges [] (replicate least_work 0))).reply expected
holds? (queries y index s t pattern expected) = same_answer? (query_call (trial_header y) s t pattern (lent y.edges index (replicate least_work 0))).reply expected
holds? (refuses y totals index s t pattern number) =
    refused? (query_call (with_totals y totals) s t pattern (lent y.edges index (replicate least_work 0))).reply number
holds? (routes y s t pattern walk expected after) =
    lights? (route_call (trial_size y) s t pattern (lent_out y.edges (replicate least_work 7) walk)) expected after
holds? (indexed y expected) = same? (entries_of y) expected
holds? (counts y expected) = eqb (length (entries_of y)) expected
holds? (reads card slots room number edges index) = leaves? (read_call card (build_lent (replicate slots 0) room)) number edges index
holds? (hands card slots room vertices longest totals) =
    hands_back? (read_call card (build_lent (replicate slots 0) room)) vertices longest totals
holds? (removes y room from label to number) =
    eqb (remove_call (trial_header y) from label to (build_lent y.edges room)).reply.answer number
