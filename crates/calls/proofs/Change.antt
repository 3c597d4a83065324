-- Laws of the changing calls: checks one after another, what a refusal leaves, and what settling comes to.
use mathlib.Core.Path.{◌≡◌, refl, sym, ap₂, ◌∙◌}
use mathlib.Core.Bool.{Bool, true, false}
use mathlib.Core.List.{List, [], ◌∷◌, ◌++◌}
use Prim.Native.Nat.{ℕ, zero, suc, ◌+◌, ◌≤◌, ◌<◌}
use native.Mathlib.Decide.{dec_lt}
use native.Mathlib.Omega.{arith}
use lib.Dec.{T, leb}
use lib.ListN.{length}
use Rattle.model.specs.Limits.{most_edges, most_label, least_work}
use Rattle.model.specs.Lists.{filled, zeroed}
use Rattle.model.specs.Edges.{Bounds}
use Rattle.model.specs.Computed.Edges.{edge_memory?}
use Rattle.model.specs.Computed.Entries.{determined}
use Rattle.model.proofs.Tests.{test_and, test_le, test_true, test_false, test_yields}
use Rattle.model.proofs.Memory.{edge_memory}
use Rattle.calls.specs.Checks.{Check, first_refusal}
use Rattle.calls.specs.Call.{Size, Header, graph_of, Memory, Outcome, refusing, Meets, Returned}
use Rattle.calls.specs.Card.{count_of, card_checks, read_refusal, read_change}
use Rattle.calls.specs.Change.{handed, returning, handing, build_room?, fits?, settle, open_checks, open_refusal, open_change, change_checks, change_refusal, insert_refusal, insert_change, remove_refusal, remove_change}
use Rattle.calls.proofs.Checks.{numbered?, Passed, done, also, passes, test_vertices, test_longest, test_ends}

-- ---- checks, and then further ones

pub stop_first : (l later : List Check) {n : ℕ} → first_refusal l ≡ n → 1 ≤ n → first_refusal (l ++ later) ≡ n
unfolding first_refusal
stop_first [] later e h = absurd (omega arith)
stop_first ((n, true) ∷ l) later e h = stop_first l later e h
stop_first ((n, false) ∷ l) later e h = e

pub pass_first : (l later : List Check) → T (numbered? l) → first_refusal l ≡ 0 → first_refusal (l ++ later) ≡ first_refusal later
unfolding first_refusal
pass_first [] later q e = refl
pass_first ((zero, b) ∷ l) later q e = absurd q
pass_first ((suc n, true) ∷ l) later q e = pass_first l later q e
pass_first ((suc n, false) ∷ l) later q e = absurd (omega arith)

-- if none of them refuses, none of the first does
pub front_passes : (l later : List Check) → first_refusal (l ++ later) ≡ 0 → first_refusal l ≡ 0
front_passes l later e = elim (dec_lt 0 (first_refusal l)) [ yes h ↦ absurd (omega (arith, stop_first l later refl h, e, h)) | no h ↦ omega (arith, h) ]

-- what the checks 1 to 6 leave
pub record ChangeGood (h : Size) (from label to : ℕ) (m : Memory) : Type 0 where
  pub header : Bounds h.vertices h.longest
  pub memory : edge_memory? h.vertices m.edges ≡ true
  pub room : least_work + length m.index ≤ length m.work
  pub from_vertex : from < h.vertices
  pub to_vertex : to < h.vertices
  pub label_least : 1 ≤ label
  pub label_most : label ≤ most_label

good : (h : Size) (from label to : ℕ) (m : Memory) → Passed (change_checks h from label to m) → ChangeGood h from label to m
good h from label to m (also vertices (also longest (also memory (also room (also ends (also a-label done)))))) =
    let (v, w) = test_yields (test_vertices h.vertices) vertices in
    let (k, l) = test_yields (test_longest h.longest) longest in
    let (a, b) = test_yields (test_ends h.vertices from to) ends in
    let (c, d) = test_yields (test_and (test_le 1 label) (test_le label most_label)) a-label in
    record {
      header = record { vertices_least = v; vertices_most = w; longest_least = k; longest_most = l };
      memory = memory;
      room = test_yields (test_le (least_work + length m.index) (length m.work)) room;
      from_vertex = a;
      to_vertex = b;
      label_least = c;
      label_most = d;
    }

pub change_good : (h : Size) (from label to : ℕ) (m : Memory) → change_refusal h from label to m ≡ 0 → ChangeGood h from label to m
unfolding change_refusal
change_good h from label to m e = good h from label to m (passes (change_checks h from label to m) tt e)

-- ---- the record that is handed back

pub handed_some : (given : Header) (size : Size) (edges : List ℕ) (n : ℕ) → 1 ≤ n → handed n given size edges ≡ given
handed_some given size edges zero h = absurd (omega arith)
handed_some given size edges (suc n) h = refl

-- a change that leaves that, with the record that is handed back with its answer
pub handing_meets : (given : Header) (size : Size) {c : Outcome ℕ} {n : ℕ} {m : Memory} {r : Returned} → Meets c n m → r ≡ returning n given size m.edges
    → Meets (handing given size c) r m
handing_meets given size l e =
    record {
      reply_is = e ∙ ap₂ (λ (i : ℕ) (edges : List ℕ). returning i given size edges) l.reply_is l.edges_after;
      edges_after = l.edges_after;
      index_after = l.index_after;
      work_after = l.work_after;
      output_after = l.output_after;
    }

-- ---- settling

module _ (h : Size) (wanted : List ℕ) (m : Memory) where
  pub settle_fits : length (determined (graph_of h wanted)) ≤ length m.index → {m' : Memory}
      → m'.edges ≡ filled (length m.edges) wanted → m'.index ≡ filled (length m.index) (determined (graph_of h wanted))
      → m'.work ≡ zeroed m.work → m'.output ≡ m.output → Meets (settle h wanted m) 0 m'
  unfolding settle
  settle_fits l a b c d =
      rw (test_true (test_le (length (determined (graph_of h wanted))) (length m.index)) l)
      (record { reply_is = refl; edges_after = a; index_after = b; work_after = c; output_after = d })

  pub settle_short : length m.index < length (determined (graph_of h wanted)) → {m' : Memory}
      → m'.edges ≡ m.edges → m'.index ≡ m.index → m'.work ≡ zeroed m.work → m'.output ≡ m.output
      → Meets (settle h wanted m) 13 m'
  unfolding settle
  settle_short l a b c d =
      rw (test_false (test_le (length (determined (graph_of h wanted))) (length m.index)) (λ z. omega (arith, z, l)))
      (record { reply_is = refl; edges_after = a; index_after = b; work_after = c; output_after = d })

-- what it leaves does not depend on what work memory holds
pub settle_same : (h : Size) (wanted : List ℕ) (m m' : Memory) {n : ℕ} {left : Memory}
    → m.edges ≡ m'.edges → m.index ≡ m'.index → length m.work ≡ length m'.work → m.output ≡ m'.output
    → Meets (settle h wanted m) n left → Meets (settle h wanted m') n left
unfolding settle
settle_same h wanted m m' {n} {left} a b c d v = go (fits? h wanted m) refl
  where
    go : (t : Bool) → fits? h wanted m ≡ t → Meets (settle h wanted m') n left
    go true q =
        let q' : fits? h wanted m' ≡ true = rw (sym b) q in
        let v' = rw q at v in
        rw q' (record {
          reply_is = v'.reply_is;
          edges_after = rw (sym a) v'.edges_after;
          index_after = rw (sym b) v'.index_after;
          work_after = rw (sym c) v'.work_after;
          output_after = rw (sym d) v'.output_after;
        })
    go false q =
        let q' : fits? h wanted m' ≡ false = rw (sym b) q in
        let v' = rw q at v in
        rw q' (record {
          reply_is = v'.reply_is;
          edges_after = rw (sym a) v'.edges_after;
          index_after = rw (sym b) v'.index_after;
          work_after = rw (sym c) v'.work_after;
          output_after = rw (sym d) v'.output_after;
        })

-- ---- an accepted change was lent at most 1,024 edge slots

done_number : (n : ℕ) (m : Memory) (c : Outcome ℕ) → (refusing (λ i. i) m n c).reply ≡ 0 → n ≡ 0
done_number zero m c e = refl
done_number (suc n) m c e = absurd (omega (arith, e))

pub open_few : (h : Size) (m : Memory) → (open_change h m).reply ≡ 0 → length m.edges ≤ most_edges
unfolding open_change open_refusal
open_few h m e = elim (passes (open_checks h m) tt (done_number (first_refusal (open_checks h m)) m _ e)) [
  | also _ (also _ (also few done)) ↦ test_yields (test_le (length m.edges) most_edges) few
]

module _ (h : Size) (from label to : ℕ) (m : Memory) where
  begun_few : (later : List Check) (c : Outcome ℕ) → (refusing (λ i. i) m (first_refusal (change_checks h from label to m ++ later)) c).reply ≡ 0 → length m.edges ≤ most_edges
  unfolding change_refusal
  begun_few later c e =
      let g = change_good h from label to m (front_passes (change_checks h from label to m) later (done_number _ m c e)) in
      (edge_memory h.vertices m.edges g.memory).0

  pub insert_few : (insert_change h from label to m).reply ≡ 0 → length m.edges ≤ most_edges
  unfolding insert_change insert_refusal
  insert_few e = begun_few _ _ e

  pub remove_few : (remove_change h from label to m).reply ≡ 0 → length m.edges ≤ most_edges
  unfolding remove_change remove_refusal
  remove_few e = begun_few _ _ e

pub read_few : (card : List ℕ) (m : Memory) → (read_change card m).reply ≡ 0 → length m.edges ≤ most_edges
unfolding read_change read_refusal
read_few card m e = elim (passes (card_checks card ++ later) tt (done_number (first_refusal (card_checks card ++ later)) m _ e)) [
  | also _ (also _ (also _ (also _ (also few _)))) ↦ test_yields (test_le (length m.edges) most_edges) few
]
  where
    later : List Check
    later = (3, leb (length m.edges) most_edges) ∷ (9, leb (count_of card) (length m.edges)) ∷ (4, build_room? m) ∷ []
