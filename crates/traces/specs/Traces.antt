-- Demand 3, of what `store` promises. A trace is what a program has seen that calls `store` again and again on one station. Of each call only
-- this is known: what it was given, what it returned, what memory held before and afterwards, and that the contract of that function holds of
-- these, word for word as it stands in `store`; of a card reading, which hands no header back if it is refused, that of what it returned with the
-- zero header beside the refusal. (src/ shows from those contracts that each call is such a step.)
use Rattle.std.specs.Prelude.{◌≡◌, ◌⊎◌, Bool, Result, Ok, Err, List, [], ◌∷◌, ℕ, T, length, replicate}
use Rattle.model.specs.Lists.{◌∈◌, keep, filled, Bytes}
use Rattle.model.specs.Limits.{most_label}
use Rattle.model.specs.declared.Refusal.{Refusal}
use Rattle.calls.specs.Call.{Memory, lent, Meets}
use Rattle.calls.specs.Change.{open_call, insert_call, remove_call}
use Rattle.calls.specs.Card.{read_call}
use Rattle.store.specs.Store.{numbers, returned}
use Rattle.store.specs.declared.Header.{Header}
use Rattle.store.specs.declared.Changed.{Changed}
use Rattle.demands.specs.Ledger.{Given, opening, insertion, removal, card, Fed, rising, book_entries, ruling, LedgerReply, Account, ledger}
use Rattle.demands.specs.Terms.{reply_to, blank, Begins, standing_graph, Missed}
use Rattle.demands.specs.Demand2.{Right}

-- what a program keeps between two calls: the header of the last accepted one, and edge and index memory
pub record Held : Type 0 where
  pub header : Header
  pub edges : List ℕ
  pub index : List ℕ

abbrev pub lent_to : Held → List ℕ → Memory
lent_to held work = lent held.edges held.index work

-- what a card reading returned, as the other calls return it. No record is a header that is all zero.
abbrev pub changed_by : Result Header Refusal → Changed
changed_by (Ok h) = record { header = h; answer = Ok tt }
changed_by (Err r) =
    record { header = record { size = record { vertices = 0; longest = 0 }; totals = replicate most_label 0 }; answer = Err r }

-- One call: what it was given and the work memory lent to it; r is what it returned, edges and index what memory held afterwards. Insertion
-- and removal are given the header kept. (What work memory held afterwards is not looked at: `left`.)
pub data Step (held : Held) : Given → List ℕ → Changed → List ℕ → List ℕ → Type 0 where
  opens : {r : Changed} {edges index : List ℕ} (header : Header)
      → Meets (open_call (numbers header) (lent_to held [])) (returned r) (lent edges index [])
      → Step held (opening header.size.vertices header.size.longest header.totals) [] r edges index
  inserts : {r : Changed} {edges index : List ℕ} (from label to : ℕ) (work left : List ℕ)
      → Meets (insert_call (numbers held.header) from label to (lent_to held work)) (returned r) (lent edges index left)
      → Step held (insertion from label to) work r edges index
  removes : {r : Changed} {edges index : List ℕ} (from label to : ℕ) (work left : List ℕ)
      → Meets (remove_call (numbers held.header) from label to (lent_to held work)) (returned r) (lent edges index left)
      → Step held (removal from label to) work r edges index
  reads : {r : Changed} {edges index : List ℕ} (bytes : List ℕ) (small : Bytes bytes) (work left : List ℕ)
      → Meets (read_call bytes (lent_to held work)) (returned r) (lent edges index left)
      → Step held (card bytes small) work r edges index

-- the header that is kept: the one returned if the call was accepted
abbrev pub kept : Result (Unit {0}) Refusal → (returned last : Header) → Header
kept (Ok _) returned last = returned
kept (Err refusal) returned last = last

abbrev pub held_after : Held → Changed → (edges index : List ℕ) → Held
held_after held r edges index = record { header = kept r.answer r.header held.header; edges = edges; index = index }

-- calls one after another, each on what the one before left
pub data Trace : Held → Type 0 where
  done : {held : Held} → Trace held
  next : {held : Held} {given : Given} {work : List ℕ} {r : Changed} {edges index : List ℕ}
      → Step held given work r edges index → Trace (held_after held r edges index) → Trace held

-- what is held in the end
unfoldable pub end_of : {held : Held} → Trace held → Held
end_of (done {held = held}) = held
end_of (next step more) = end_of more

-- ---- the replies, as a program reads them off what is returned

unfoldable pub replies_of : {held : Held} → Trace held → List LedgerReply
replies_of done = []
replies_of (next {given = given} {r = r} step more) = let rest = replies_of more in reply_to given (returned r) ∷ rest

-- ---- the ledger's account of the same calls: it is fed what each is given and how many slots are lent

abbrev pub feeds : (edge_slots index_slots : ℕ) → Given → List ℕ → Fed
feeds edge_slots index_slots given work =
    record { given = given; edge_slots = edge_slots; index_slots = index_slots; work_slots = length work }

unfoldable pub fed_of : (edge_slots index_slots : ℕ) {held : Held} → Trace held → List Fed
fed_of edge_slots index_slots done = []
fed_of edge_slots index_slots (next {given = given} {work = work} step more) =
    let rest = fed_of edge_slots index_slots more in feeds edge_slots index_slots given work ∷ rest

abbrev pub account_of : {held : Held} → Trace held → Account
account_of {held} trace = ledger blank (fed_of (length held.edges) (length held.index) trace)

-- each reply and every slot of edge and index memory is what the ledger gives, and no entry of the index can be spared: with any entry struck
-- out, some right yes is answered no, put with the header of the last accepted call
pub record Accounted {held : Held} (trace : Trace held) (account : Account) : Type 0 where
  pub replies : replies_of trace ≡ account.replies
  pub edges : (end_of trace).edges ≡ filled (length held.edges) (rising account.book.edges)
  pub index : (end_of trace).index ≡ filled (length held.index) (book_entries account.book)
  pub needed : (f : ℕ → Bool) (e : ℕ) → e ∈ book_entries account.book → ¬ T (f e)
      → Missed (numbers (end_of trace).header) account.book (filled (length held.index) (keep f (book_entries account.book)))
  -- and of demand 2: questions put afterwards, with that header and the memory left, are answered rightly
  pub right : Right (numbers (end_of trace).header) (end_of trace).edges (end_of trace).index (standing_graph account.book)

-- For every trace that begins with an opening or card reading, whatever memory held before: accepted as the call answered, or as the ledger
-- counts; either will do.
abbrev pub TraceHolds : Type 0
TraceHolds =
    (held : Held) (given : Given) (work : List ℕ) (r : Changed) (edges index : List ℕ)
    (first : Step held given work r edges index) (more : Trace (held_after held r edges index))
    → Begins given
    → (r.answer ≡ Ok tt) ⊎ ((ruling blank (feeds (length held.edges) (length held.index) given work)).number ≡ 0)
    → Accounted (next first more) (account_of (next first more))
