-- A list of openings, lays, lifts and card readings on one station: the calls, one after another, on the memory that the one before left.
use Rattle.std.specs.Prelude.{List, [], ◌∷◌, map, ℕ, zero, suc, length}
use Rattle.calls.specs.Call.{Header, Memory, lent, Outcome, Returned}
use Rattle.calls.specs.Change.{open_call, insert_call, remove_call}
use Rattle.calls.specs.Card.{read_call}
use Rattle.demands.specs.Ledger.{Given, opening, insertion, removal, card, Fed, LedgerReply}
use Rattle.demands.specs.Terms.{reply_to}

-- a call: what it is given, and the work memory lent to it (an opening uses none)
pub record Call : Type 0 where
  pub given : Given
  pub work : List ℕ

-- edge and index memory, and the record of the last accepted change
pub record Station : Type 0 where
  pub header : Header
  pub edges : List ℕ
  pub index : List ℕ

abbrev pub memory_of : Station → List ℕ → Memory
memory_of s work = lent s.edges s.index work

-- what a call comes to: each insertion and removal is handed the record of the last accepted change
abbrev pub change_on : Station → List ℕ → Given → Outcome Returned
change_on s work (opening vertices longest totals) =
    open_call (record { size = record { vertices = vertices; longest = longest }; totals = totals }) (memory_of s [])
change_on s work (insertion from label to) = insert_call s.header from label to (memory_of s work)
change_on s work (removal from label to) = remove_call s.header from label to (memory_of s work)
change_on s work (card bytes _) = read_call bytes (memory_of s work)

abbrev pub change : Station → Call → Outcome Returned
change s c = change_on s c.work c.given

-- the record of the last accepted change: the one handed back if the call is accepted
abbrev pub header_after : ℕ → (last handed : Header) → Header
header_after zero last handed = handed
header_after (suc n) last handed = last

abbrev pub after : Station → Outcome Returned → Station
after s c =
    record { header = header_after c.reply.answer s.header c.reply.header; edges = c.memory.edges; index = c.memory.index }

pub record Run : Type 0 where
  pub replies : List LedgerReply
  pub station : Station

unfoldable pub run : Station → List Call → Run
run s [] = record { replies = []; station = s }
run s (c ∷ more) =
    let rest = run (after s (change s c)) more in
    record { replies = reply_to c.given (change s c).reply ∷ rest.replies; station = rest.station }

-- ---- what the ledger is shown of a call: what it is given and how many slots are lent, not what memory holds

abbrev pub fed_by : (edge_slots index_slots : ℕ) → Call → Fed
fed_by edge_slots index_slots c = record { given = c.given; edge_slots = edge_slots; index_slots = index_slots; work_slots = length c.work }

-- the ledger of a station's calls: edge and index memory are the same throughout
abbrev pub fed_all : Station → List Call → List Fed
fed_all s calls = map (fed_by (length s.edges) (length s.index)) calls
