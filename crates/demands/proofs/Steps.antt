-- One call on the station and one turn of the ledger: what both hold, and that it stays so.
use mathlib.Core.Path.{◌≡◌, refl, ap, ◌∙◌}
use mathlib.Core.List.{List}
use Prim.Native.Nat.{ℕ, zero, suc, ◌≤◌}
use native.Mathlib.Omega.{arith}
use lib.ListN.{length}
use Rattle.model.specs.Limits.{most_edges}
use Rattle.model.specs.Lists.{filled}
use Rattle.model.specs.Edges.{Bounds, standing}
use Rattle.model.proofs.Memory.{edge_least, length_filled, standing_filled}
use Rattle.calls.specs.Call.{Size, Header, Memory, Outcome, Returned}
use Rattle.calls.specs.Change.{handing}
use Rattle.calls.proofs.Settling.{Result}
use Rattle.demands.specs.Ledger.{Given, opening, insertion, removal, card, Book, rising, tally, book_entries, Shown, Turn, turn_with}
use Rattle.demands.specs.Terms.{shown_header, shown_to, reply_to}
use Rattle.demands.specs.Run.Station.{Station, memory_of, header_after, after}
use Rattle.demands.proofs.Rising.{EdgesOf, rising_out}
use Rattle.demands.proofs.Totals.{tally_is}

abbrev pub book_size : Book → Size
book_size b = record { vertices = b.vertices; longest = b.longest }

abbrev pub record_of : Book → Header
record_of b = record { size = book_size b; totals = tally b.edges }

-- the station that holds what the ledger does
abbrev pub station_of : (slots room : ℕ) → Book → Station
station_of slots room b = record { header = record_of b; edges = filled slots (rising b.edges); index = filled room (book_entries b) }

-- what the ledger holds fits there
pub record Fine (slots room : ℕ) (b : Book) : Type 0 where
  pub bounds : Bounds b.vertices b.longest
  pub few : slots ≤ most_edges
  pub valid : EdgesOf b.vertices b.edges
  pub fits : length (rising b.edges) ≤ slots
  pub held : length (book_entries b) ≤ room

module _ {slots room : ℕ} {b : Book} (f : Fine slots room b) where
  pub edge_slots_lem : length (filled slots (rising b.edges)) ≡ slots
  edge_slots_lem = length_filled slots (rising b.edges) f.fits

  pub index_slots_lem : length (filled room (book_entries b)) ≡ room
  index_slots_lem = length_filled room (book_entries b) f.held

-- an accepted change of a layout of that size that leaves what the ledger then holds
pub record Reaches (slots room : ℕ) (size : Size) (done : Outcome ℕ) (b : Book) : Type 0 where
  pub answer : done.reply ≡ 0
  pub size_is : size ≡ book_size b
  pub edges : done.memory.edges ≡ filled slots (rising b.edges)
  pub index : done.memory.index ≡ filled room (book_entries b)
  pub fine : Fine slots room b

-- the record that it hands back: its totals are those that the ledger counts
hands : {slots room : ℕ} {size : Size} {done : Outcome ℕ} {b : Book} (given : Header) → Reaches slots room size done b
    → (handing given size done).reply ≡ record { header = record_of b; answer = 0 }
hands {slots} {b = b} given r =
    let stands : standing (filled slots (rising b.edges)) ≡ rising b.edges
    = standing_filled slots (rising b.edges) (λ x k. omega (arith, edge_least b.vertices x (r.fine.valid x (rising_out b.edges k)))) in
    rw (r.answer, r.size_is, r.edges, stands, tally_is b.edges) refl

-- the call's reply is the ledger's, and the station afterwards holds what the ledger then does
pub record Matches (slots room : ℕ) (s : Station) (given : Given) (c : Outcome Returned) (t : Turn) : Type 0 where
  pub reply : reply_to given c.reply ≡ t.reply
  pub next : after s c ≡ station_of slots room t.book
  pub fine : Fine slots room t.book

-- an accepted call shows the record that it hands back
shown_accepted : (given : Given) (h : Header) → shown_to given (record { header = h; answer = 0 }) ≡ shown_header h
shown_accepted (opening vertices longest totals) h = refl
shown_accepted (insertion from label to) h = refl
shown_accepted (removal from label to) h = refl
shown_accepted (card bytes small) h = refl

-- a call is given what the ledger is fed, and the record; `size` is the layout's once it is accepted, `shown` what the ledger shows with a refusal of it
module _ (b sets : Book) (given : Given) (h : Header) (size : Size) (shown : Shown)
    (shows-refused : (n : ℕ) → shown_to given (record { header = h; answer = suc n }) ≡ shown) where
  refused_reply : {n : ℕ} {c done : Outcome Returned} {m : Memory} → Result c h m done (suc n) → reply_to given c.reply ≡ (turn_with (suc n) b sets shown).reply
  refused_reply {n} r = rw (r.reply (omega arith)) (ap (λ (x : Shown). record { number = suc n; shown = x }) (shows-refused n))

  module _ {slots room : ℕ} where
    accepted : {s : Station} {c : Outcome ℕ} → Reaches slots room size c sets → Matches slots room s given (handing h size c) (turn_with 0 b sets shown)
    accepted {s} {c} r =
        let back = hands h r in
        record {
          reply = ap (reply_to given) back ∙ ap (λ (x : Shown). record { number = 0; shown = x }) (shown_accepted given (record_of sets));
          next = ap (λ (x : Returned). record { header = header_after x.answer s.header x.header; edges = c.memory.edges; index = c.memory.index }) back ∙ rw (r.edges, r.index) refl;
          fine = r.fine;
        }

    -- a call on a station that holds what the ledger does
    pub matches : (n : ℕ) {c : Outcome Returned} {done : Outcome ℕ} {work : List ℕ} → Result c h (memory_of (station_of slots room b) work) (handing h size done) n → Fine slots room b
        → (n ≡ 0 → Reaches slots room size done sets) → Matches slots room (station_of slots room b) given c (turn_with n b sets shown)
    matches zero r f reach = rw (r.accepted refl) (accepted (reach refl))
    matches (suc n) r f reach =
        let k : 1 ≤ suc n = omega arith in
        record { reply = refused_reply r; next = rw (r.reply k, r.edges k, r.index k) refl; fine = f }

    -- a call on any station: the reply alone, refused or not
    pub first_reply : (n : ℕ) (s : Station) {c : Outcome Returned} {done : Outcome ℕ} {m : Memory} → Result c h m (handing h size done) n
        → (n ≡ 0 → Reaches slots room size done sets) → reply_to given c.reply ≡ (turn_with n b sets shown).reply
    first_reply zero s r reach = rw (r.accepted refl) (accepted {s = s} (reach refl)).reply
    first_reply (suc n) s r reach = refused_reply r

    -- an accepted call on any station
    pub begins : {n : ℕ} {s : Station} {c : Outcome Returned} {done : Outcome ℕ} {m : Memory} → Result c h m (handing h size done) n → n ≡ 0
        → Reaches slots room size done sets → Matches slots room s given c (turn_with n b sets shown)
    begins r e reach = rw (e, r.accepted e) (accepted reach)
