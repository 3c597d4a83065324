-- Demand 1: a refused call leaves everything lent as it was, except that 13 and 18 leave work memory zero; an accepted call leaves the work memory
-- that it uses zero. (That calls touch memory only between its ends, and always finish, is the check's own.)
use Rattle.std.specs.Prelude.{◌≡◌, ◌⊎◌, List, [], ◌++◌, ℕ, ◌≤◌, take, drop}
use Rattle.model.specs.Lists.{zeroed}
use Rattle.model.specs.Patterns.{MinRepeat}
use Rattle.model.specs.Query.{Answered, Yes as AnsweredYes, No as AnsweredNo, Refused as AnsweredRefused}
use Rattle.model.specs.Middles.{TwoAnswered, Yes as TwoYes, No as TwoNo, Refused as TwoRefused}
use Rattle.model.specs.Routes.{Routed, Yes as RoutedYes, No as RoutedNo, Refused as RoutedRefused}
use Rattle.model.specs.States.{Reply, Yes, No, Spent, Refused}
use Rattle.calls.specs.Call.{Size, Header, Lacks, Memory, lent, cleared, Outcome, Returned, Wrote, Length, Refused as NotWritten, no_record}
use Rattle.calls.specs.Search.{search_call}
use Rattle.calls.specs.Route.{route_call}
use Rattle.calls.specs.Query.{query_call}
use Rattle.calls.specs.QueryTwo.{query_two_call}
use Rattle.calls.specs.Change.{open_call, insert_call, remove_call}
use Rattle.calls.specs.Card.{read_call, write_call}

-- the refusals that leave work memory zero: document 01's 13, and 18, "as 13 does" (document 02, Three)
abbrev pub Zeroing : ℕ → Type 0
Zeroing number = (number ≡ 13) ⊎ (number ≡ 18)

-- a call that was lent that memory, and told that number: 0 if it was accepted
pub record Keeps {R : Type 0} (m : Memory) (c : Outcome R) (number : ℕ) : Type 0 where
  -- "All lent memory is unchanged, except that 13 leaves work memory zero."
  pub refused : 1 ≤ number → ¬ Zeroing number → c.memory ≡ m
  pub zeroing : Zeroing number → c.memory ≡ cleared m

-- a changing call that was given that record
pub record ChangeKeeps (given : Header) (m : Memory) (c : Outcome Returned) : Type 0 where
  pub keeps : Keeps m c c.reply.answer
  -- "returned with the record as given"
  pub header : 1 ≤ c.reply.answer → c.reply.header ≡ given
  -- "Accepted calls that use work memory leave it zero as well."
  pub accepted : c.reply.answer ≡ 0 → c.memory.work ≡ zeroed m.work

-- the number that a reply tells
abbrev pub search_number : Reply → ℕ
search_number (Yes c) = 0
search_number (No c) = 0
search_number (Spent c) = 0
search_number (Refused n) = n

abbrev pub query_number : Answered → ℕ
query_number AnsweredYes = 0
query_number AnsweredNo = 0
query_number (AnsweredRefused n) = n

abbrev pub route_number : Routed → ℕ
route_number (RoutedYes n) = 0
route_number RoutedNo = 0
route_number (RoutedRefused n) = n

abbrev pub write_number : Wrote → ℕ
write_number (Length n) = 0
write_number (NotWritten n) = n

abbrev pub two_number : TwoAnswered → ℕ
two_number (TwoYes m) = 0
two_number TwoNo = 0
two_number (TwoRefused n) = n

-- what an accepted question leaves, if a label is lacking, if each pattern is written once, and else
pub record Leaves (Lacking Once : Type 0) (m m' : Memory) : Type 0 where
  pub lacking : Lacking → m' ≡ m
  pub once : Once → m' ≡ m
  pub repeating : ¬ Lacking → ¬ Once → m' ≡ cleared m

-- what an accepted route leaves: work memory zero, and walk memory as it was, but for the slots of its edges
pub record LeavesWalk (m : Memory) (c : Outcome Routed) : Type 0 where
  pub no : c.reply ≡ RoutedNo → c.memory ≡ cleared m
  pub yes : (n : ℕ) → c.reply ≡ RoutedYes n
      → c.memory ≡ record { edges = m.edges; index = m.index; work = zeroed m.work; output = take n c.memory.output ++ drop n m.output }

pub record Demand1 : Type 0 where
  pub opens : (h : Header) (edges index : List ℕ) → let m = lent edges index [] in ChangeKeeps h m (open_call h m)
  pub inserts : (h : Header) (from label to : ℕ) (m : Memory) → ChangeKeeps h m (insert_call h from label to m)
  pub removes : (h : Header) (from label to : ℕ) (m : Memory) → ChangeKeeps h m (remove_call h from label to m)
  -- "for a card, no record"
  pub reads : (bytes : List ℕ) (m : Memory) → ChangeKeeps no_record m (read_call bytes m)
  -- document 02, Two: a question by a pattern that repeats itself zeroes work memory "past check 4", so unless it is refused or, Four, a label is
  -- lacking; "other questions leave it as found". Nothing else is changed
  pub queries : (h : Header) (start destination : ℕ) (pattern : List ℕ) (m : Memory) →
      let c = query_call h start destination pattern m in
      Keeps m c (query_number c.reply) × (query_number c.reply ≡ 0 → Leaves (Lacks h.totals pattern) (MinRepeat pattern pattern) m c.memory)
  -- document 02, Five: the same of two patterns, of which either may lack a label or repeat itself
  pub queries_two : (h : Header) (start destination : ℕ) (first second : List ℕ) (m : Memory) →
      let c = query_two_call h start destination first second m in
      Keeps m c (two_number c.reply)
      × (two_number c.reply ≡ 0
      → Leaves (Lacks h.totals first ⊎ Lacks h.totals second) (MinRepeat first first × MinRepeat second second) m c.memory)
  -- an accepted plain check zeroes work memory, and changes nothing else
  pub searches : (size : Size) (start destination : ℕ) (pattern : List ℕ) (limit : ℕ) (m : Memory) →
      let c = search_call size start destination pattern limit m in
      Keeps m c (search_number c.reply) × (search_number c.reply ≡ 0 → c.memory ≡ cleared m)
  -- document 02, Three: "the slots behind it are untouched. A no writes nothing"; 18 "leaves work memory zero, as 13 does"
  pub routes : (size : Size) (start destination : ℕ) (pattern : List ℕ) (m : Memory) →
      let c = route_call size start destination pattern m in
      Keeps m c (route_number c.reply) × LeavesWalk m c
  -- "A written card touches only its own length of the output, and its length is returned."
  pub writes : (size : Size) (m : Memory) →
      let c = write_call size m in
      Keeps m c (write_number c.reply) × ((n : ℕ) → c.reply ≡ Length n → drop n c.memory.output ≡ drop n m.output)
