-- From the checks of a call to the wanted edges, and from what settling leaves to what the call leaves.
use mathlib.Core.Path.{◌≡◌, refl}
use mathlib.Core.Logic.{⊎_elim}
use mathlib.Core.Bool.{true}
use Prim.Native.Nat.{ℕ, ◌+◌, ◌-◌}
use native.Mathlib.Omega.{arith}
use Rattle.model.specs.Lists.{zeroed}
use Rattle.model.specs.Edges.{edge_number, standing}
use Rattle.model.specs.Replies.{number_of}
use Rattle.model.specs.Computed.Edges.{edge?, insert_edge, remove_edge}
use Rattle.model.specs.declared.Refusal.{Refusal}
use Rattle.model.proofs.Tests.{test_true}
use Rattle.model.proofs.Edges.{edge_fields, test_edge}
use Rattle.edges.proofs.Memory.{length_insert, member_insert, rising_insert, length_remove, member_remove, rising_remove}
use Rattle.calls.specs.Call.{Size, Memory, Meets}
use Rattle.calls.specs.Change.{settle, open_refusal, open_change, insert_refusal, insert_change, remove_refusal, remove_change}
use Rattle.calls.proofs.Calls.{refused_meets, accepted_is}
use Rattle.calls.proofs.Change.{ChangeGood}
use Rattle.named.specs.Named.{Places, Takes}
use Rattle.named.proofs.Naming.{good, memory, places_absent, takes_present}
use Rattle.changes.proofs.Trying.{Wanted}

-- ---- opening

module _ (h : Size) (m : Memory) where
  pub open_stops : (r : Refusal) → open_refusal h m ≡ number_of r → Meets (open_change h m) (number_of r) m
  unfolding open_change
  open_stops r e = refused_meets (λ n. n) m _ (open_refusal h m) r e

  pub open_leaves : {m' : Memory} → open_refusal h m ≡ 0 → m'.edges ≡ zeroed m.edges → m'.index ≡ zeroed m.index → m'.work ≡ m.work
      → m'.output ≡ m.output → Meets (open_change h m) 0 m'
  unfolding open_change
  open_leaves e a b c d =
      rw (accepted_is (λ n. n) m _ (open_refusal h m) e) (record { reply_is = refl; edges_after = a; index_after = b; work_after = c; output_after = d })

-- ---- insertion and removal

-- a refusal leaves memory alone
module _ (h : Size) (from label to : ℕ) (m : Memory) where
  pub insert_stops : (r : Refusal) → insert_refusal h from label to m ≡ number_of r → Meets (insert_change h from label to m) (number_of r) m
  unfolding insert_change
  insert_stops r e = refused_meets (λ n. n) m _ (insert_refusal h from label to m) r e

  pub remove_stops : (r : Refusal) → remove_refusal h from label to m ≡ number_of r → Meets (remove_change h from label to m) (number_of r) m
  unfolding remove_change
  remove_stops r e = refused_meets (λ n. n) m _ (remove_refusal h from label to m) r e

module _ {h : Size} {from label to : ℕ} {m : Memory} where
  -- the named edge is one of the graph
  named_edge : ChangeGood h from label to m → edge? h.vertices (edge_number from label to) ≡ true
  named_edge g =
      let (a, b, c) = edge_fields from label to (omega (arith, g.label_most)) (omega (arith, g.to_vertex, g.header.vertices_most)) in
      test_true (test_edge h.vertices (edge_number from label to)) (record {
        from = omega (arith, a, g.from_vertex);
        label_low = omega (arith, b, g.label_least);
        label_high = omega (arith, b, g.label_most);
        to = omega (arith, c, g.to_vertex);
      })

  module _ {n at : ℕ} where
    pub insert_wanted : Places h from label to m n at → Wanted h (insert_edge (edge_number from label to) (standing m.edges)) m (n + 1)
    insert_wanted p =
        let x : ℕ = edge_number from label to in
        let g = good p.passes in
        let s = memory p.passes in
        record {
          count = omega (arith, length_insert x (standing m.edges), p.passes.count);
          header = g.header;
          few = s.slots;
          fits = omega (arith, length_insert x (standing m.edges), p.place.room);
          rises = rising_insert x (standing m.edges) s.rising (places_absent p);
          valid = λ z k. ⊎_elim (λ e. rw e (named_edge g)) (λ l. s.edges z l) ((member_insert x (standing m.edges) z).0 k);
          room = g.room;
        }

    pub insert_leaves : Places h from label to m n at → {k : ℕ} {left : Memory}
        → Meets (settle h (insert_edge (edge_number from label to) (standing m.edges)) m) k left
        → Meets (insert_change h from label to m) k left
    unfolding insert_change
    insert_leaves p l = rw (accepted_is (λ n. n) m _ (insert_refusal h from label to m) p.is) l

    pub remove_wanted : Takes h from label to m n at → Wanted h (remove_edge (edge_number from label to) (standing m.edges)) m (n - 1)
    remove_wanted p =
        let x : ℕ = edge_number from label to in
        let g = good p.passes in
        let s = memory p.passes in
        record {
          count = omega (arith, length_remove x (standing m.edges) (takes_present p), p.passes.count);
          header = g.header;
          few = s.slots;
          fits = omega (arith, length_remove x (standing m.edges) (takes_present p), s.count, s.within);
          rises = rising_remove x (standing m.edges) s.rising;
          valid = λ z k. s.edges z ((member_remove x (standing m.edges) s.rising z).0 k).0;
          room = g.room;
        }

    pub remove_leaves : Takes h from label to m n at → {k : ℕ} {left : Memory}
        → Meets (settle h (remove_edge (edge_number from label to) (standing m.edges)) m) k left
        → Meets (remove_change h from label to m) k left
    unfolding remove_change
    remove_leaves p l = rw (accepted_is (λ n. n) m _ (remove_refusal h from label to m) p.is) l
