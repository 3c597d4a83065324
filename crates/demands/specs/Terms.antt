-- The terms in which demand 3 is stated of a program that calls the station (`traces`): what its replies show, how a list of calls begins, and
-- which question is missed if an entry is struck out.
use Rattle.std.specs.Prelude.{◌≡◌, List, [], ℕ, zero, suc}
use Rattle.model.specs.Lists.{Bytes}
use Rattle.model.specs.Edges.{Graph}
use Rattle.model.specs.Patterns.{Pattern}
use Rattle.model.specs.Walks.{Runs}
use Rattle.model.specs.Query.{No}
use Rattle.calls.specs.Call.{Header, lent, Returned}
use Rattle.calls.specs.Query.{query_call}
use Rattle.demands.specs.Ledger.{Book, rising, Given, opening, insertion, removal, card, Shown, shows, nothing, LedgerReply}

-- a reply as the ledger would tell it: the record shown is the one handed back, except that a refused card shows none
abbrev pub shown_header : Header → Shown
shown_header h = shows h.size.vertices h.size.longest h.totals

abbrev pub shown_card : ℕ → Header → Shown
shown_card zero h = shown_header h
shown_card (suc n) h = nothing

abbrev pub shown_to : Given → Returned → Shown
shown_to (opening vertices longest totals) r = shown_header r.header
shown_to (insertion from label to) r = shown_header r.header
shown_to (removal from label to) r = shown_header r.header
shown_to (card bytes _) r = shown_card r.answer r.header

abbrev pub reply_to : Given → Returned → LedgerReply
reply_to given r = record { number = r.answer; shown = shown_to given r }

-- a ledger that holds nothing yet
abbrev pub blank : Book
blank = record { vertices = 0; longest = 0; edges = [] }

-- an opening or a card reading
pub data Begins : Given → Type 0 where
  by_opening : {vertices longest : ℕ} {totals : List ℕ} → Begins (opening vertices longest totals)
  by_card : {bytes : List ℕ} {small : Bytes bytes} → Begins (card bytes small)

-- the standing edges as a graph
abbrev pub standing_graph : Book → Graph
standing_graph b = record { vertices = b.vertices; longest = b.longest; edges = rising b.edges }

-- "It is rightly a yes if its pattern has at most k colours, is its own minimum repeat, and is run by a walk of standing legs from start to
-- destination." Put with that memory and the record, it is answered no, whatever edge and work memory are lent with it: they play no part
pub record Missed (h : Header) (b : Book) (index : List ℕ) : Type 0 where
  pub start : ℕ
  pub destination : ℕ
  pub pattern : List ℕ
  pub own : Pattern b.longest pattern
  pub runs : Runs (standing_graph b) pattern start destination
  pub answered : (edges work : List ℕ) → (query_call h start destination pattern (lent edges index work)).reply ≡ No
