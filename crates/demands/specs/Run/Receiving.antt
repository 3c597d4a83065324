-- "Reading a card fills leg and index memory as if a fresh layout had received those legs": an opening and a lay (insertion) of each leave the same.
use Rattle.std.specs.Prelude.{◌≡◌, ℕ, ◌+◌, ◌≤◌, length, take}
use mathlib.Core.List.{List, [], ◌∷◌, map, Memᴰ}
use Rattle.model.specs.Limits.{least_work}
use Rattle.model.specs.Lists.{◌∈◌, Bytes}
use Rattle.model.specs.Edges.{from_of, label_of, to_of}
use Rattle.demands.specs.Ledger.{Book, opening, insertion, card, book_entries, card_book, LedgerReply}
use Rattle.demands.specs.Run.Station.{Call, Station, change_on, after, run}

-- the calls by which a fresh layout receives edges: an opening, whatever totals its record has, and an insertion of each, with work memory of its own
abbrev pub receiving : Book → (totals : List ℕ) → (ℕ → List ℕ) → List Call
receiving b totals works =
    record { given = opening b.vertices b.longest totals; work = [] }
    ∷ map (λ x. record { given = insertion (from_of x) (label_of x) (to_of x); work = works x }) b.edges

-- index and work memory suffice at every step
pub record Suffices (b : Book) (room : ℕ) (works : ℕ → List ℕ) : Type 0 where
  pub index : (n : ℕ) → length (book_entries (record { vertices = b.vertices; longest = b.longest; edges = take n b.edges })) ≤ room
  pub work : (x : ℕ) → x ∈ b.edges → least_work + room ≤ length (works x)

-- every call is accepted, and in the end record, edge and index memory are those
pub record Receives (s : Station) (calls : List Call) (end : Station) : Type 0 where
  pub accepted : (r : LedgerReply) → Memᴰ r (run s calls).replies → r.number ≡ 0
  pub same : (run s calls).station ≡ end

abbrev pub ReceivingSame : Type 0
ReceivingSame =
    (s : Station) (bytes : List ℕ) (small : Bytes bytes) (work totals : List ℕ) (works : ℕ → List ℕ) →
    let c = change_on s work (card bytes small) in
    c.reply.answer ≡ 0 → Suffices (card_book bytes) (length s.index) works → Receives s (receiving (card_book bytes) totals works) (after s c)
