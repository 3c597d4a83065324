-- Demand 1 holds.
use mathlib.Core.Path.{◌≡◌, refl, sym, ap}
use mathlib.Core.Logic.{◌⊎◌, inl, inr, ⊎_elim}
use mathlib.Core.Bool.{Bool, true, false, not, ◌&&◌, ◌||◌}
use mathlib.Core.List.{List, [], ◌∷◌, ◌++◌}
use Prim.Native.Nat.{ℕ, zero, suc, ◌≤◌}
use native.Mathlib.Omega.{arith}
use lib.ListN.{length, drop}
use lib.Seq.{take-append_seam, drop-append_seam}
use lib.Dec.{T, eqb}
use Rattle.model.specs.Lists.{keep, up_to, zeroed}
use Rattle.model.specs.Edges.{Graph, standing}
use Rattle.model.specs.Routes.{Routed, Yes as RoutedYes, No as RoutedNo, Refused as RoutedRefused}
use Rattle.model.specs.Patterns.{MinRepeat}
use Rattle.model.specs.Query.{Answered}
use Rattle.model.specs.Middles.{TwoAnswered, Refused as TwoRefused}
use Rattle.model.specs.States.{Reply, Refused}
use Rattle.model.specs.Computed.Patterns.{once?}
use Rattle.model.specs.Computed.Levels.{runs?}
use Rattle.model.specs.Computed.Query.{answers?}
use Rattle.model.specs.Levels.{Told, found, ended, stopped}
use Rattle.model.proofs.Tests.{Tests, test_true, test_false, test_yields, test_fails, test_and, test_or, test_not, test_eq, test_T, both_ways}
use Rattle.model.proofs.Search.{told}
use Rattle.calls.specs.Checks.{Check, first_refusal}
use Rattle.calls.specs.Call.{Size, Header, Lacks, graph_of, Memory, cleared, Outcome, refusing, Wrote, Length, Refused as NotWritten}
use Rattle.calls.specs.Search.{search_refusal, search_call}
use Rattle.calls.specs.Route.{lit, lighting, route_call}
use Rattle.calls.specs.Query.{saying, ask_refusal, full_refusal, full_call, lacking?, query_call}
use Rattle.calls.specs.QueryTwo.{lowest, two_refusal, either_lacks?, memory_checks, counts?, by_middles, query_two_call}
use Rattle.calls.specs.Change.{handing, fits?, settle, open_refusal, open_change, open_call, insert_refusal, insert_change, insert_call, remove_refusal, remove_change, remove_call}
use Rattle.calls.specs.Card.{read_refusal, read_change, read_call, card_of, write_refusal, write_call}
use Rattle.calls.proofs.Change.{handed_some}
use Rattle.calls.proofs.QueryTwo.{test_either, test_both, two_leaves, two_refuses, two_lacking, memory_refuses, two_accepted}
use Rattle.calls.proofs.Query.{within, test_lacking, query_refuses, query_lacking, query_full}
use Rattle.calls.proofs.Route.{LightingCase, nothing, fits, too_long, lighting_case}
use Rattle.demands.specs.Demand1.{Zeroing, Keeps, ChangeKeeps, search_number, query_number, two_number, route_number, write_number, Leaves, LeavesWalk, Demand1}
use Rattle.demands.proofs.Asking.{number_refuses, once_is, repeats_is}

-- an accepted call refuses nothing
accepted_keeps : {R : Type 0} {m : Memory} {c : Outcome R} {n : ℕ} → n ≡ 0 → Keeps m c n
accepted_keeps e = record { refused = λ k _. absurd (omega (arith, e)); zeroing = λ q. absurd (⊎_elim (λ z. omega (arith, e, z)) (λ z. omega (arith, e, z)) q) }

-- ---- changing calls

-- a change, which tells its answer alone
record AnswerKeeps (m : Memory) (c : Outcome ℕ) : Type 0 where
  keeps : Keeps m c c.reply
  accepted : c.reply ≡ 0 → c.memory.work ≡ zeroed m.work

-- as a call that hands back the record
handing_keeps : (given : Header) (size : Size) (m : Memory) (c : Outcome ℕ) → AnswerKeeps m c → ChangeKeeps given m (handing given size c)
handing_keeps given size m c k =
    record {
      keeps = record { refused = k.keeps.refused; zeroing = k.keeps.zeroing };
      header = handed_some given size c.memory.edges c.reply;
      accepted = k.accepted;
    }

-- settling: its only refusal is 13
settle_keeps : (h : Size) (wanted : List ℕ) (m : Memory) → AnswerKeeps m (settle h wanted m)
unfolding settle
settle_keeps h wanted m = go (fits? h wanted m) refl
  where
    go : (b : Bool) → fits? h wanted m ≡ b → AnswerKeeps m (settle h wanted m)
    go true e = rw e (record { keeps = accepted_keeps refl; accepted = λ _. refl })
    go false e = rw e (record { keeps = record { refused = λ _ d. absurd (d (inl refl)); zeroing = λ _. refl }; accepted = λ q. absurd (omega (arith, q)) })

-- a refusal by the checks, none of which zeroes work memory
with_keeps : (n : ℕ) → ¬ Zeroing n → (m : Memory) (c : Outcome ℕ) → AnswerKeeps m c → AnswerKeeps m (refusing (λ i. i) m n c)
with_keeps zero d m c k = k
with_keeps (suc n) d m c k = record { keeps = record { refused = λ _ _. refl; zeroing = λ q. absurd (d q) }; accepted = λ q. absurd (omega (arith, q)) }

-- none of these checks has such a number
abbrev other? : List Check → Bool
other? [] = true
other? (c ∷ l) = not (eqb c.0 13 || eqb c.0 18) && other? l

test_other : (n : ℕ) (l : List Check) → Tests (not (eqb n 13 || eqb n 18) && other? l) ((¬ Zeroing n) × T (other? l))
test_other n l = test_and (test_not (test_or (test_eq n 13) (test_eq n 18))) (test_T (other? l))

other_number : (l : List Check) → T (other? l) → ¬ Zeroing (first_refusal l)
unfolding first_refusal
other_number [] t e = ⊎_elim (λ z. omega (arith, z)) (λ z. omega (arith, z)) e
other_number ((n, true) ∷ l) t e = other_number l ((test_other n l).yields t).1 e
other_number ((n, false) ∷ l) t e = ((test_other n l).yields t).0 e

opens_keeps : (h : Header) (m : Memory) → m.work ≡ [] → ChangeKeeps h m (open_call h m)
unfolding open_call open_change open_refusal
opens_keeps h m e =
    handing_keeps h h.size m _ (with_keeps (open_refusal h.size m) (other_number _ tt) m _ (record { keeps = accepted_keeps refl; accepted = λ _. rw e refl }))

-- ---- calls that change no record

yes_or_no : (b : Bool) → query_number (saying b) ≡ 0
yes_or_no true = refl
yes_or_no false = refl

full_accepted : (h : Size) (start destination : ℕ) (pattern : List ℕ) (m : Memory) → full_refusal h start destination pattern m ≡ 0
    → query_number (full_call h start destination pattern m).reply ≡ 0
unfolding full_call
full_accepted h start destination pattern m e =
    rw e (both_ways (once? pattern)
    (λ q. rw q (yes_or_no (answers? h.vertices m.index pattern start destination)))
    (λ q. rw q (yes_or_no (runs? (graph_of h (standing m.edges)) pattern start destination))))

-- what an accepted question leaves, of a kind
abbrev Asks : Memory → (Memory → Type 0) → Outcome Answered → Type 0
Asks m leaves c = Keeps m c (query_number c.reply) × (query_number c.reply ≡ 0 → leaves c.memory)

-- the full question: by how often the pattern was written
record LeavesByCount (pattern : List ℕ) (m m' : Memory) : Type 0 where
  once : MinRepeat pattern pattern → m' ≡ m
  repeating : ¬ MinRepeat pattern pattern → m' ≡ cleared m

full_keeps : (h : Size) (start destination : ℕ) (pattern : List ℕ) (m : Memory) → Asks m (LeavesByCount pattern m) (full_call h start destination pattern m)
full_keeps h start destination pattern m = go (full_refusal h start destination pattern m) refl
  where
    c : Outcome Answered
    c = full_call h start destination pattern m

    others : ¬ Zeroing (full_refusal h start destination pattern m)
    others = unfold full_refusal in other_number _ tt

    go : (n : ℕ) → full_refusal h start destination pattern m ≡ n → Asks m (LeavesByCount pattern m) c
    go zero e = (
      accepted_keeps (full_accepted h start destination pattern m e),
      λ _. record {
        once = λ own. rw (once_is h start destination pattern m e own) refl;
        repeating = λ more. rw (repeats_is h start destination pattern m e more) refl;
      },
    )
    go (suc n) e =
        let told = number_refuses h start destination pattern m e in
        rw told (
          record { refused = λ _ _. unfold full_call in rw e refl; zeroing = λ q. absurd (others (rw e q)) },
          λ q. absurd (omega (arith, q)),
        )

-- the question: by the rule of totals
query_keeps : (h : Header) (start destination : ℕ) (pattern : List ℕ) (m : Memory) → Asks m (Leaves (Lacks h.totals pattern) (MinRepeat pattern pattern) m) (query_call h start destination pattern m)
query_keeps h start destination pattern m = both_ways (lacking? h.totals pattern) (λ q. ruled q (ask_refusal h.size start destination pattern) refl) whole
  where
    lacks? : Tests (lacking? h.totals pattern) (Lacks h.totals pattern)
    lacks? = test_lacking h.totals pattern

    whole : lacking? h.totals pattern ≡ false → Asks m (Leaves (Lacks h.totals pattern) (MinRepeat pattern pattern) m) (query_call h start destination pattern m)
    whole q =
        let (keeps, leaves) = full_keeps h.size start destination pattern m in
        rw (query_full h start destination pattern m q) (
          keeps,
          λ e. record { lacking = λ l. absurd (test_fails lacks? q l); once = (leaves e).once; repeating = λ _. (leaves e).repeating },
        )

    others : ¬ Zeroing (ask_refusal h.size start destination pattern)
    others = unfold ask_refusal in other_number _ tt

    ruled : lacking? h.totals pattern ≡ true → (n : ℕ) → ask_refusal h.size start destination pattern ≡ n → Asks m (Leaves (Lacks h.totals pattern) (MinRepeat pattern pattern) m) (query_call h start destination pattern m)
    ruled q zero e =
        rw (query_lacking h start destination pattern m e q) (
          accepted_keeps refl,
          λ _. record { lacking = λ _. refl; once = λ _. refl; repeating = λ d. absurd (d (test_yields lacks? q)) },
        )
    ruled q (suc n) e =
        rw (query_refuses h start destination pattern m e) (
          record { refused = λ _ _. refl; zeroing = λ z. absurd (others (rw e z)) },
          λ z. absurd (omega (arith, z)),
        )

-- two patterns: the same by either
lowest_accepted : (l : List ℕ) → two_number (lowest l) ≡ 0
lowest_accepted [] = refl
lowest_accepted (v ∷ l) = refl

module _ (h : Header) (start destination : ℕ) (first second : List ℕ) (m : Memory) where
  abbrev Lacking : Type 0
  Lacking = Lacks h.totals first ⊎ Lacks h.totals second

  abbrev Once : Type 0
  Once = MinRepeat first first × MinRepeat second second

  abbrev AsksTwo : Outcome TwoAnswered → Type 0
  AsksTwo c = Keeps m c (two_number c.reply) × (two_number c.reply ≡ 0 → Leaves Lacking Once m c.memory)

  -- a refusal that leaves everything
  two_refusal_lem : {n : ℕ} → ¬ Zeroing (suc n) → AsksTwo (record { reply = TwoRefused (suc n); memory = m })
  two_refusal_lem d = (record { refused = λ _ _. refl; zeroing = λ z. absurd (d z) }, λ z. absurd (omega (arith, z)))

  two_keeps : AsksTwo (query_two_call h start destination first second m)
  unfolding by_middles
  two_keeps = early (two_refusal h.size start destination first second) refl
    where
      lacks? : Tests (either_lacks? h.totals first second) Lacking
      lacks? = test_either h.totals first second

      others : ¬ Zeroing (two_refusal h.size start destination first second)
      others = unfold two_refusal in other_number _ tt

      later : (n : ℕ) → two_refusal h.size start destination first second ≡ 0 → either_lacks? h.totals first second ≡ false
          → first_refusal (memory_checks h start destination first second m) ≡ n → AsksTwo (query_two_call h start destination first second m)
      later (suc n) passed q e = rw (memory_refuses h start destination first second m passed q e) (two_refusal_lem (λ z. other_number (memory_checks h start destination first second m) tt (rw e z)))
      later zero passed q e =
          let a = two_leaves h.size start destination first second passed in
          let once? = test_both (within a.bounds a.first_keyed) (within a.bounds a.second_keyed) in
          rw (two_accepted h start destination first second m passed q e) (
            accepted_keeps (lowest_accepted (keep (counts? h start destination first second m) (up_to h.size.vertices))),
            λ _. record {
              lacking = λ l. absurd (test_fails lacks? q l);
              once = λ o. rw (test_true once? o) refl;
              repeating = λ _ d. rw (test_false once? d) refl;
            },
          )

      early : (n : ℕ) → two_refusal h.size start destination first second ≡ n → AsksTwo (query_two_call h start destination first second m)
      early (suc n) e = rw (two_refuses h start destination first second m e) (two_refusal_lem (λ z. others (rw e z)))
      early zero e = both_ways (either_lacks? h.totals first second)
          (λ q. rw (two_lacking h start destination first second m e q) (
            accepted_keeps refl,
            λ _. record { lacking = λ _. refl; once = λ _. refl; repeating = λ d. absurd (d (test_yields lacks? q)) },
          ))
          (λ q. later (first_refusal (memory_checks h start destination first second m)) e q refl)

pub told_none : {g : Graph} {l : List ℕ} {s t limit : ℕ} {r : Reply} → Told g l s t limit r → search_number r ≡ 0
told_none (found c h q m) = refl
told_none (ended c h q m) = refl
told_none (stopped q) = refl

searched_keeps : (n : ℕ) → ¬ Zeroing n → (reply : Reply) → search_number reply ≡ 0 → (m : Memory) →
    let c = refusing Refused m n (record { reply = reply; memory = cleared m }) in
    Keeps m c (search_number c.reply) × (search_number c.reply ≡ 0 → c.memory ≡ cleared m)
searched_keeps zero d reply e m = (accepted_keeps e, λ _. refl)
searched_keeps (suc n) d reply e m = (record { refused = λ _ _. refl; zeroing = λ q. absurd (d q) }, λ q. absurd (omega (arith, q)))

-- ---- the route

-- 0 for a yes, 1 for a no, and the number of edges
abbrev pub yes_no : Routed → ℕ
yes_no (RoutedYes n) = 0
yes_no RoutedNo = 1
yes_no (RoutedRefused n) = 2

abbrev pub edges_in : Routed → ℕ
edges_in (RoutedYes n) = n
edges_in RoutedNo = 0
edges_in (RoutedRefused n) = 0

lit_leaves : (es : List ℕ) (m : Memory) → LeavesWalk m (record { reply = RoutedYes (length es); memory = lit es m })
lit_leaves es m = record {
  no = λ e. absurd (let z : 0 ≡ 1 = ap yes_no e in omega (arith, z));
  yes = λ n e.
      let z : length es ≡ n = ap edges_in e in
      rw (sym z) (ap (λ (l : List ℕ). record { edges = m.edges; index = m.index; work = zeroed m.work; output = l ++ drop (length es) m.output })
      (sym (take-append_seam es (drop (length es) m.output))));
}

-- one that lights nothing
dark_leaves : (m : Memory) {c : Outcome Routed} → 1 ≤ yes_no c.reply → (c.reply ≡ RoutedNo → c.memory ≡ cleared m) → LeavesWalk m c
dark_leaves m h f = record { no = f; yes = λ n e. absurd (let z = ap yes_no e in omega (arith, z)) }

routed_keeps : (n : ℕ) → ¬ Zeroing n → (es : List ℕ) (m : Memory) →
    let c = refusing RoutedRefused m n (lighting es m) in
    Keeps m c (route_number c.reply) × LeavesWalk m c
routed_keeps (suc n) d es m = (
  record { refused = λ _ _. refl; zeroing = λ q. absurd (d q) },
  dark_leaves m (omega arith) (λ e. absurd (let z : 2 ≡ 1 = ap yes_no e in omega (arith, z))),
)
routed_keeps zero d es m = go (lighting_case es m)
  where
    go : {c : Outcome Routed} → LightingCase es m c → Keeps m c (route_number c.reply) × LeavesWalk m c
    go (nothing e) = (accepted_keeps refl, dark_leaves m (omega arith) (λ _. refl))
    go (fits some enough) = (accepted_keeps refl, lit_leaves es m)
    go (too_long less) = (
      record { refused = λ _ d. absurd (d (inr refl)); zeroing = λ _. refl },
      dark_leaves m (omega arith) (λ e. absurd (let z : 2 ≡ 1 = ap yes_no e in omega (arith, z))),
    )

-- ---- a written card

-- 0 for a length, and the number
abbrev pub kind : Wrote → ℕ
kind (Length n) = 0
kind (NotWritten n) = 1

abbrev pub number_in : Wrote → ℕ
number_in (Length n) = n
number_in (NotWritten n) = n

written_keeps : (n : ℕ) → ¬ Zeroing n → (card : List ℕ) (m : Memory) →
    let done : Memory = record { edges = m.edges; index = m.index; work = m.work; output = card ++ drop (length card) m.output } in
    let c = refusing NotWritten m n (record { reply = Length (length card); memory = done }) in
    Keeps m c (write_number c.reply) × ((k : ℕ) → c.reply ≡ Length k → drop k c.memory.output ≡ drop k m.output)
written_keeps zero d card m = (
  accepted_keeps refl,
  λ k e. let z : length card ≡ k = ap number_in e in rw (sym z) (drop-append_seam card (drop (length card) m.output)),
)
written_keeps (suc n) d card m = (record { refused = λ _ _. refl; zeroing = λ q. absurd (d q) }, λ k e. absurd (let z : 1 ≡ 0 = ap kind e in omega (arith, z)))

pub demand1 : Demand1
unfolding insert_call insert_change insert_refusal remove_call remove_change remove_refusal read_call read_change read_refusal search_call search_refusal route_call write_call write_refusal
demand1 =
    record {
      opens = λ h edges index. opens_keeps h _ refl;
      inserts = λ h from label to m. handing_keeps h _ m _ (with_keeps _ (other_number _ tt) m _ (settle_keeps _ _ m));
      removes = λ h from label to m. handing_keeps h _ m _ (with_keeps _ (other_number _ tt) m _ (settle_keeps _ _ m));
      reads = λ bytes m. handing_keeps _ _ m _ (with_keeps _ (other_number _ tt) m _ (settle_keeps _ _ m));
      queries = query_keeps;
      queries_two = two_keeps;
      searches = λ h start destination pattern limit m.
          searched_keeps _ (other_number _ tt) _ (told_none (told (graph_of h (standing m.edges)) pattern start destination limit)) m;
      routes = λ h start destination pattern m. routed_keeps _ (other_number _ tt) _ m;
      writes = λ h m. written_keeps _ (other_number _ tt) (card_of h (standing m.edges)) m;
    }
