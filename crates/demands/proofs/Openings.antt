-- Opening: the call on any station is the ledger's turn. No edges determine no entries.
use mathlib.Core.Path.{◌≡◌, refl, sym, ap, ◌∙◌}
use mathlib.Core.Bool.{not}
use mathlib.Core.List.Memᴰ
use mathlib.Core.List.{List, [], ◌∷◌}
use Prim.Native.Nat.{ℕ, ◌-◌, ◌≤◌}
use native.Mathlib.Omega.{arith}
use lib.Dec.{leb, ltb}
use lib.ListN.{length, replicate}
use Rattle.model.specs.Limits.{most_vertices, most_edges, most_longest}
use Rattle.model.specs.Lists.{◌∈◌, zeroed, filled}
use Rattle.model.specs.Edges.{Graph}
use Rattle.model.specs.Walks.{Spells, edge, Runs, once, more}
use Rattle.model.specs.Entries.{IsEntry}
use Rattle.model.specs.Computed.Edges.{Small}
use Rattle.model.specs.Computed.Order.{counted}
use Rattle.model.specs.Computed.Entries.{determined}
use Rattle.model.proofs.Tests.{test_yields, test_le}
use Rattle.model.proofs.Entries.{entries_out}
use Rattle.calls.specs.Checks.{Check, first_refusal}
use Rattle.calls.specs.Call.{Header, lent, Outcome}
use Rattle.calls.specs.Change.{handing, open_checks, open_refusal, open_change, open_call}
use Rattle.calls.proofs.Checks.{bounded}
use Rattle.calls.proofs.Settling.{Result, with_number}
use Rattle.calls.proofs.Passing.{passing}
use Rattle.demands.specs.Ledger.{Book, opening, rising, book_entries, Shown, shows, opening_number, turn}
use Rattle.demands.specs.Terms.{reply_to}
use Rattle.demands.specs.Run.Station.{Call, Station, memory_of, fed_by}
use Rattle.demands.proofs.Rising.{rising_out}
use Rattle.demands.proofs.Numbers.{Gives, gives_none, chain, above_not, outside_not}
use Rattle.demands.proofs.Steps.{station_of, Fine, edge_slots_lem, index_slots_lem, Reaches, Matches, matches, begins, first_reply}

-- ---- no edges, no entries

empty_is : (l : List ℕ) → ((x : ℕ) → x ∈ l → ⊥) → l ≡ []
empty_is [] f = refl
empty_is (x ∷ l) f = absurd (f x (Memᴰ.head refl))

module _ (g : Graph) (bare : g.edges ≡ []) where
  no_word : {s t : ℕ} {l : List ℕ} → 1 ≤ length l → Spells g s l t → ⊥
  no_word {l = []} h p = absurd (omega arith)
  no_word {l = c ∷ l} h (edge e p) = Memᴰ.not-nil (rw bare at e.stands)

  no_run : {s t : ℕ} {l : List ℕ} → 1 ≤ length l → Runs g l s t → ⊥
  no_run h (once p) = no_word h p
  no_run h (more p r) = no_word h p

  no_entry : {order : List ℕ} {x : ℕ} → IsEntry g order x → ⊥
  no_entry (IsEntry.out s t l q a e) = no_run q.pattern.keyed.long a.stop.walk
  no_entry (IsEntry.into s t l q a d e) = no_run q.pattern.keyed.long a.stop.walk

  pub no_entries : Small g → determined g ≡ []
  unfolding determined
  no_entries small = empty_is (determined g) (λ x m. no_entry (entries_out g (counted g) small m))

pub blank_filled : (m : ℕ) → replicate m 0 ≡ filled m []
blank_filled m = let e : m ≡ m - 0 = omega arith in ap (λ (k : ℕ). replicate k 0) e

pub rising_none : rising [] ≡ []
rising_none = empty_is (rising []) (λ x m. Memᴰ.not-nil (rising_out [] m))

-- ---- the opening

module _ (h : Header) where
  -- whatever work memory is lent
  abbrev opens : List ℕ → Call
  opens work = record { given = opening h.size.vertices h.size.longest h.totals; work = work }

  abbrev fresh : Book
  fresh = record { vertices = h.size.vertices; longest = h.size.longest; edges = [] }

  abbrev done : Station → Outcome ℕ
  done s = record { reply = 0; memory = lent (zeroed s.edges) (zeroed s.index) [] }

  -- what the ledger shows with a refusal: the record as given
  abbrev given : Shown
  given = shows h.size.vertices h.size.longest h.totals

  module _ (work : List ℕ) (s : Station) {slots room : ℕ} (wide : length s.edges ≡ slots) (long : length s.index ≡ room) where
    abbrev checks : List Check
    checks = open_checks h.size (memory_of s [])

    abbrev number : ℕ
    number = opening_number h.size.vertices h.size.longest (fed_by slots room (opens work))

    open_gives : Gives checks number
    unfolding opening_number
    open_gives =
        chain (outside_not 1 most_vertices h.size.vertices) (λ _.
        chain (outside_not 1 most_longest h.size.longest) (λ _.
        chain three (λ _. gives_none)))
      where
        three : ltb most_edges slots ≡ not (leb (length s.edges) most_edges)
        three = rw wide (above_not slots most_edges)

    open_reaches : first_refusal checks ≡ 0 → Reaches slots room h.size (done s) fresh
    open_reaches e =
        let (v, (k, (few, _))) = passing checks tt e in
        let bounds = bounded v k in
        let empty : book_entries fresh ≡ [] = no_entries (record { vertices = h.size.vertices; longest = h.size.longest; edges = rising [] }) rising_none
        (record { vertices_small = bounds.vertices_most; longest_small = bounds.longest_most }) in
        record {
          answer = refl;
          size_is = refl;
          edges = rw (rising_none, wide) (blank_filled slots);
          index = rw (empty, long) (blank_filled room);
          fine = record {
            bounds = bounds;
            few = rw wide at (test_yields (test_le (length s.edges) most_edges) few);
            valid = λ x m. absurd (Memᴰ.not-nil m);
            fits = rw rising_none (omega arith);
            held = rw empty (omega arith);
          };
        }

    open_result : Result (open_call h (memory_of s [])) h (memory_of s []) (handing h h.size (done s)) (first_refusal checks)
    unfolding open_call open_change open_refusal
    open_result = with_number h h.size (first_refusal checks) (memory_of s []) (done s)

    pub open_begins : (b : Book) → opening_number h.size.vertices h.size.longest (fed_by slots room (opens work)) ≡ 0
        → Matches slots room s (opens work).given (open_call h (memory_of s [])) (turn b (fed_by slots room (opens work)))
    unfolding turn
    open_begins b e =
        let z : first_refusal checks ≡ 0 = open_gives.is ∙ e in
        rw (sym open_gives.is) (begins b fresh (opens work).given h h.size given (λ n. refl) open_result z (open_reaches z))

    pub open_first : (b : Book) → reply_to (opens work).given (open_call h (memory_of s [])).reply ≡ (turn b (fed_by slots room (opens work))).reply
    unfolding turn
    open_first b = rw (sym open_gives.is) (first_reply b fresh (opens work).given h h.size given (λ n. refl) (first_refusal checks) s open_result open_reaches)

  pub open_matches : (work : List ℕ) {slots room : ℕ} {b : Book} → Fine slots room b
      → Matches slots room (station_of slots room b) (opens work).given (open_call h (memory_of (station_of slots room b) [])) (turn b (fed_by slots room (opens work)))
  unfolding turn
  open_matches work {slots} {room} {b} f =
      let s = station_of slots room b in
      rw (sym (open_gives work s (edge_slots_lem f) (index_slots_lem f)).is)
      (matches b fresh (opens work).given h h.size given (λ n. refl) (first_refusal (checks work s (edge_slots_lem f) (index_slots_lem f))) (open_result work s (edge_slots_lem f) (index_slots_lem f)) f
      (open_reaches work s (edge_slots_lem f) (index_slots_lem f)))
