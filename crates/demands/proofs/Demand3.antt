-- Demand 3 holds.
use mathlib.Core.Path.{◌≡◌, refl, ap, ap₂, ◌∙◌}
use mathlib.Core.Bool.{Bool, true}
use mathlib.Core.List.{List, [], ◌∷◌, map}
use Prim.Native.Nat.{ℕ, zero, suc}
use lib.Dec.{T}
use lib.ListN.{length}
use Rattle.model.specs.Lists.{◌∈◌, keep, filled}
use Rattle.model.specs.Query.{Answered, No}
use Rattle.model.specs.Computed.Edges.{Small}
use Rattle.model.specs.Computed.Patterns.{once?}
use Rattle.model.specs.Computed.Order.{counted}
use Rattle.model.specs.Computed.Entries.{determined}
use Rattle.model.proofs.Tests.{test_true, both_ways}
use Rattle.model.proofs.Patterns.{test_keyed, test_once}
use Rattle.model.proofs.Order.{counted_names}
use Rattle.calls.specs.Call.{Memory, lent, Outcome}
use Rattle.calls.specs.Query.{saying, full_refusal, full_call, lacking?, query_call}
use Rattle.calls.proofs.Checks.{none, pass, first_is, bounds_pass, test_ends}
use Rattle.calls.proofs.Query.{within, ask_passes, query_lacking, query_full}
use Rattle.demands.specs.Ledger.{Given, opening, insertion, removal, card, Fed, Book, rising, book_entries, ruling, turn_with, turn, LedgerReply, ledger}
use Rattle.demands.specs.Run.Station.{Call, Station, change_on, change, run, fed_by, fed_all}
use Rattle.demands.specs.Run.Demand3.{Demand3Holds}
use Rattle.demands.specs.Terms.{blank, Begins, standing_graph, Missed}
use Rattle.demands.proofs.Index.{Turned, struck_answer}
use Rattle.demands.proofs.Steps.{book_size, record_of, station_of, Fine, Matches}
use Rattle.demands.proofs.Changes.{insert_matches, remove_matches}
use Rattle.demands.proofs.Openings.{open_begins, open_first, open_matches}
use Rattle.demands.proofs.Cards.{read_begins, read_first, read_matches}
use Rattle.demands.proofs.Rising.{rising_rises, rising_out}
use Rattle.demands.proofs.Totals.{tally_is}
use Rattle.demands.proofs.Asking.{once_is}
use Rattle.demands.proofs.Right.{Standable, right}

-- ---- one call after another

module _ (slots room : ℕ) where
  step : {b : Book} → Fine slots room b → (c : Call) → Matches slots room (station_of slots room b) c.given (change (station_of slots room b) c) (turn b (fed_by slots room c))
  step {b} f c = on c.given
    where
      on : (given : Given) → Matches slots room (station_of slots room b) given (change_on (station_of slots room b) c.work given) (turn b (fed_by slots room (record { given = given; work = c.work })))
      on (opening vertices longest totals) = open_matches (record { size = record { vertices = vertices; longest = longest }; totals = totals }) c.work f
      on (insertion from label to) = insert_matches f from label to c.work
      on (removal from label to) = remove_matches f from label to c.work
      on (card bytes small) = read_matches bytes small c.work f

  -- the station's run and the ledger's account
  pub record Agrees (s : Station) (b : Book) (calls : List Call) : Type 0 where
    pub replies : (run s calls).replies ≡ (ledger b (map (fed_by slots room) calls)).replies
    pub station : (run s calls).station ≡ station_of slots room (ledger b (map (fed_by slots room) calls)).book
    pub fine : Fine slots room (ledger b (map (fed_by slots room) calls)).book

  -- a call that matches, and a list that agrees from there on
  after_first : {s : Station} {b : Book} (c : Call) {more : List Call} → Matches slots room s c.given (change s c) (turn b (fed_by slots room c))
      → Agrees (station_of slots room (turn b (fed_by slots room c)).book) (turn b (fed_by slots room c)).book more → Agrees s b (c ∷ more)
  unfolding run ledger
  after_first c {more} m a =
      record {
        replies = ap₂ (λ (x : LedgerReply) (l : List LedgerReply). x ∷ l) m.reply (ap (λ (t : Station). (run t more).replies) m.next ∙ a.replies);
        station = ap (λ (t : Station). (run t more).station) m.next ∙ a.station;
        fine = a.fine;
      }

  agrees : (calls : List Call) {b : Book} → Fine slots room b → Agrees (station_of slots room b) b calls
  agrees [] f = unfold run ledger in record { replies = refl; station = refl; fine = f }
  agrees (c ∷ more) f = let m = step f c in after_first c m (agrees more m.fine)

-- an accepted opening or card reading, whatever the station holds
pub begun : (s : Station) (c : Call) → Begins c.given → (ruling blank (fed_by (length s.edges) (length s.index) c)).number ≡ 0
    → Matches (length s.edges) (length s.index) s c.given (change s c) (turn blank (fed_by (length s.edges) (length s.index) c))
begun s c begins = on c.given begins
  where
    made : Given → Call
    made given = record { given = given; work = c.work }

    on : (given : Given) → Begins given → (ruling blank (fed_by (length s.edges) (length s.index) (made given))).number ≡ 0
        → Matches (length s.edges) (length s.index) s given (change_on s c.work given) (turn blank (fed_by (length s.edges) (length s.index) (made given)))
    on (opening vertices longest totals) _ e = open_begins (record { size = record { vertices = vertices; longest = longest }; totals = totals }) c.work s refl refl blank e
    on (insertion from label to) b e = elim b [ ]
    on (removal from label to) b e = elim b [ ]
    on (card bytes small) _ e = read_begins bytes small c.work s refl refl blank e

-- the number of a turn
turn_number : (b : Book) (f : Fed) → (turn b f).reply.number ≡ (ruling b f).number
unfolding turn
turn_number b f = go (ruling b f).number
  where
    go : (n : ℕ) → (turn_with n b (ruling b f).sets (ruling b f).refused).reply.number ≡ n
    go zero = refl
    go (suc n) = refl

-- whatever the station holds, an opening's or a card's answer is the ledger's, refused or not
pub first_number : (s : Station) (c : Call) → Begins c.given → (change s c).reply.answer ≡ (ruling blank (fed_by (length s.edges) (length s.index) c)).number
first_number s c begins = on c.given begins ∙ turn_number blank (fed_by (length s.edges) (length s.index) c)
  where
    on : (given : Given) → Begins given
        → (change_on s c.work given).reply.answer ≡ (turn blank (fed_by (length s.edges) (length s.index) (record { given = given; work = c.work }))).reply.number
    on (opening vertices longest totals) _ =
        ap (λ (x : LedgerReply). x.number) (open_first (record { size = record { vertices = vertices; longest = longest }; totals = totals }) c.work s refl refl blank)
    on (insertion from label to) b = elim b [ ]
    on (removal from label to) b = elim b [ ]
    on (card bytes small) _ = ap (λ (x : LedgerReply). x.number) (read_first bytes small c.work s refl refl blank)

-- ---- no entry can be spared

module _ {slots room : ℕ} {b : Book} (f : Fine slots room b) where
  pub small : Small (standing_graph b)
  small = record { vertices_small = f.bounds.vertices_most; longest_small = f.bounds.longest_most }

  missed : (keeps : ℕ → Bool) (e : ℕ) → e ∈ book_entries b → ¬ T (keeps e)
      → Missed (station_of slots room b).header b (filled room (keep keeps (book_entries b)))
  unfolding determined full_refusal
  missed keeps e m gone =
      let t = struck_answer (standing_graph b) (counted (standing_graph b)) small room (counted_names (standing_graph b)) keeps e m gone in
      record {
        start = t.start;
        destination = t.destination;
        pattern = t.pattern;
        own = t.asked.pattern;
        runs = t.runs;
        answered = λ edges work. answered t (lent edges _ work)
            (ap (λ (c : Outcome Answered). c.reply) (once_is (book_size b) _ _ _ _ (passes t edges work) t.asked.pattern.own) ∙ ap saying t.no_after);
      }
    where
      -- a full reply that is no is the reply, by the rule of totals or without it
      answered : {whole struck : List ℕ} (t : Turned (standing_graph b) whole struck) (m : Memory)
          → (full_call (book_size b) t.start t.destination t.pattern m).reply ≡ No → (query_call (record_of b) t.start t.destination t.pattern m).reply ≡ No
      answered t m e = both_ways (lacking? (record_of b).totals t.pattern)
          (λ q. rw (query_lacking (record_of b) t.start t.destination t.pattern m (ask_passes f.bounds t.asked.from t.asked.to t.asked.pattern.keyed) q) refl)
          (λ q. rw (query_full (record_of b) t.start t.destination t.pattern m q) e)

      -- its pattern is its own minimum repeat, so 3 and 4 pass whatever is lent
      passes : {whole struck : List ℕ} (t : Turned (standing_graph b) whole struck) (edges work : List ℕ)
          → full_refusal (book_size b) t.start t.destination t.pattern (lent edges struck work) ≡ 0
      passes t edges work =
          let p = t.asked.pattern in
          let once : once? t.pattern ≡ true = test_true (test_once t.pattern (within f.bounds p.keyed)) p.own in
          first_is (bounds_pass f.bounds
          (pass (test_true (test_ends b.vertices t.start t.destination) (t.asked.from, t.asked.to))
          (pass (test_true (test_keyed b.longest t.pattern) p.keyed) (pass t.passes (pass (rw once refl) (pass (rw once refl) none))))))

-- the ledger's edges can stand in edge memory
can_stand : {slots room : ℕ} {b : Book} → Fine slots room b → Standable b.vertices slots (rising b.edges)
can_stand {b = b} f = record { few = f.few; fits = f.fits; rises = rising_rises b.edges; valid = λ x k. f.valid x (rising_out b.edges k) }

-- every such list
pub agreed : (s : Station) (first : Call) (more : List Call) → Begins first.given
    → (ruling blank (fed_by (length s.edges) (length s.index) first)).number ≡ 0
    → Agrees (length s.edges) (length s.index) s blank (first ∷ more)
agreed s first more begins e =
    let m = begun s first begins e in
    after_first (length s.edges) (length s.index) first m (agrees (length s.edges) (length s.index) more m.fine)

pub demand3 : Demand3Holds
demand3 s first more begins e =
    let a = agreed s first more begins e in
    record {
      account = ledger blank (fed_all s (first ∷ more));
      is = refl;
      replies = a.replies;
      edges = ap (λ (t : Station). t.edges) a.station;
      index = ap (λ (t : Station). t.index) a.station;
      needed = rw a.station (missed a.fine);
      right = rw (a.station, tally_is) (right (standing_graph _) a.fine.bounds (length s.edges) (length s.index) (can_stand a.fine));
    }
