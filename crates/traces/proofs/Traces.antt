-- Every trace is the ledger's: its memory and replies are those of `run`, of which demand 3 is proved.
use mathlib.Core.Path.{◌≡◌, refl, sym, ap, ap₂, subst, ◌∙◌}
use mathlib.Core.Logic.{⊎_elim}
use mathlib.Core.List.{List, [], ◌∷◌, map}
use Prim.Native.Nat.{ℕ, zero, suc, ◌≤◌}
use native.Mathlib.Omega.{arith}
use lib.ListN.{length}
use Rattle.model.specs.Lists.{keep, filled}
use Rattle.model.specs.Replies.{number_of, answer_of}
use Rattle.std.proofs.Common.{Result, Ok, Err}
use Rattle.model.specs.declared.Refusal.{Refusal}
use Rattle.model.proofs.Replies.{number_some}
use Rattle.calls.specs.Call.{lent, Meets}
use Rattle.store.specs.Store.{numbers, returned}
use Rattle.store.specs.declared.Changed.{Changed}
use Rattle.store.specs.declared.Header.{Header}
use Rattle.demands.specs.Ledger.{Given, Fed, book_entries, ruling, LedgerReply, Account, ledger}
use Rattle.demands.specs.Terms.{reply_to, blank, standing_graph, Missed}
use Rattle.demands.specs.Run.Station.{Call, Station, change_on, change, header_after, after, run, fed_by, fed_all}
use Rattle.demands.specs.Run.Demand3.{Demand3}
use Rattle.demands.specs.Demand2.{Right}
use Rattle.demands.proofs.Demand3.{first_number, demand3}
use Rattle.traces.specs.Traces.{Held, Step, opens, inserts, removes, reads, kept, held_after, Trace, done, next, end_of, replies_of, feeds, fed_of, account_of, Accounted, TraceHolds}

-- ---- one call

-- the header kept, by the answer
same_header : (answer : Result (Unit {0}) Refusal) (returned before : Header) → numbers (kept answer returned before) ≡ header_after (answer_of answer) (numbers before) (numbers returned)
same_header (Ok _) returned before = refl
same_header (Err r) returned before = go (number_of r) (number_some r)
  where
    go : (n : ℕ) → 1 ≤ n → numbers before ≡ header_after n (numbers before) (numbers returned)
    go zero k = absurd (omega arith)
    go (suc n) k = refl

-- ---- one step is one call of `run`

abbrev as_station : Held → Station
as_station held = record { header = numbers held.header; edges = held.edges; index = held.index }

record Follows (held : Held) (given : Given) (work : List ℕ) (r : Changed) (edges index : List ℕ) : Type 0 where
  reply : reply_to given (returned r) ≡ reply_to given (change_on (as_station held) work given).reply
  station : after (as_station held) (change_on (as_station held) work given) ≡ as_station (held_after held r edges index)

module _ {held : Held} {r : Changed} {edges index : List ℕ} where
  followed : (given : Given) (work : List ℕ) {left : List ℕ} → Meets (change_on (as_station held) work given) (returned r) (lent edges index left)
      → Follows held given work r edges index
  followed given work m =
      record {
        reply = ap (reply_to given) m.reply_is;
        station = rw (sym m.reply_is, m.edges_after, m.index_after, same_header r.answer r.header held.header) refl;
      }

  follows : {given : Given} {work : List ℕ} → Step held given work r edges index → Follows held given work r edges index
  follows (opens header m) = followed _ _ m
  follows (inserts from label to work left m) = followed _ work m
  follows (removes from label to work left m) = followed _ work m
  follows (reads bytes small work left m) = followed _ work m

-- ---- a trace is a run

unfoldable calls_of : {held : Held} → Trace held → List Call
calls_of done = []
calls_of (next {given = given} {work = work} step more) = let rest = calls_of more in record { given = given; work = work } ∷ rest

record Ran {held : Held} (trace : Trace held) : Type 0 where
  replies : replies_of trace ≡ (run (as_station held) (calls_of trace)).replies
  station : (run (as_station held) (calls_of trace)).station ≡ as_station (end_of trace)
  fed : (slots room : ℕ) → fed_of slots room trace ≡ map (fed_by slots room) (calls_of trace)

ran : {held : Held} (trace : Trace held) → Ran trace
unfolding run replies_of calls_of end_of fed_of
ran done = record { replies = refl; station = refl; fed = λ slots room. refl }
ran (next {given = given} {work = work} step more) =
    let f = follows step in
    let rest = ran more in
    record {
      replies = ap₂ (λ (x : LedgerReply) (l : List LedgerReply). x ∷ l) f.reply (rest.replies ∙ sym (ap (λ (s : Station). (run s (calls_of more)).replies) f.station));
      station = ap (λ (s : Station). (run s (calls_of more)).station) f.station ∙ rest.station;
      fed = λ slots room. ap (λ (l : List Fed). feeds slots room given work ∷ l) (rest.fed slots room);
    }

-- ---- every trace

abbrev account : {held : Held} → Trace held → Account
account {held} trace = ledger blank (fed_all (as_station held) (calls_of trace))

-- the ledger of its calls
told : {held : Held} (trace : Trace held) → account trace ≡ account_of trace
told {held} trace = ap (ledger blank) (sym ((ran trace).fed (length held.edges) (length held.index)))

accounted : {held : Held} (trace : Trace held) → Demand3 (as_station held) (calls_of trace) → Accounted trace (account_of trace)
accounted {held} trace d = subst (λ (a : Account). Accounted trace a) (d.is ∙ told trace) whole
  where
    whole : Accounted trace d.account
    whole =
        let t = ran trace in
        record {
          replies = t.replies ∙ d.replies;
          edges = sym (ap (λ (s : Station). s.edges) t.station) ∙ d.edges;
          index = sym (ap (λ (s : Station). s.index) t.station) ∙ d.index;
          needed = λ f e m gone.
              subst (λ (s : Station). Missed s.header d.account.book (filled (length held.index) (keep f (book_entries d.account.book))))
              t.station (d.needed f e m gone);
          right = subst (λ (s : Station). Right s.header s.edges s.index (standing_graph d.account.book)) t.station d.right;
        }

pub trace_holds : TraceHolds
unfolding calls_of
trace_holds held given work r edges index first more begins accepted =
    let call : Call = record { given = given; work = work } in
    let same : answer_of r.answer ≡ (change (as_station held) call).reply.answer = ap (λ (x : LedgerReply). x.number) (follows first).reply in
    let e : (ruling blank (fed_by (length held.edges) (length held.index) call)).number ≡ 0
    = ⊎_elim (λ a. sym (first_number (as_station held) call begins) ∙ sym same ∙ ap answer_of a) (λ n. n) accepted in
    accounted (next first more) (demand3 (as_station held) call (calls_of more) begins e)
