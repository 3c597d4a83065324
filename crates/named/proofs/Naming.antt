-- From the checks 1 to 6 to the lookup of the named edge, and from what it finds to the refusal of an insertion or a removal.
use mathlib.Core.Path.{◌≡◌, sym, ap, ◌∙◌}
use mathlib.Core.Bool.{Bool, true, false, not}
use mathlib.Core.List.{List, ◌∷◌}
use Prim.Native.Nat.{ℕ, ◌/◌, ◌≤◌, ◌<◌}
use native.Mathlib.Omega.{arith}
use lib.ListN.{length, get_or, take}
use lib.Seq.{get_or-take}
use Rattle.model.specs.Limits.{most_vertices, from_unit, label_unit}
use Rattle.model.specs.Lists.{◌∈◌, mem?, Rising}
use Rattle.model.specs.Edges.{edge_number, standing}
use Rattle.model.specs.Replies.{number_of}
use Rattle.model.specs.Computed.Edges.{edge_memory?}
use Rattle.model.specs.declared.Refusal.{Refusal}
use Rattle.model.proofs.Tests.{test_true, test_false, test_yields, test_mem, test_not, test_lt}
use Rattle.model.proofs.Replies.{number_some}
use Rattle.edges.specs.Memory.{scan_of}
use Rattle.std.proofs.Common.{Some, Ok, Err}
use Rattle.edges.proofs.Memory.{Scans, scans, Stands, stands, Lacks, lacks}
use Rattle.calls.specs.Checks.{Check}
use Rattle.calls.specs.Call.{Size, Memory}
use Rattle.calls.specs.Change.{change_checks, change_refusal, insert_refusal, remove_refusal}
use Rattle.calls.proofs.Checks.{none, pass, stop, first_is, Passed, also, passes}
use Rattle.calls.proofs.Change.{stop_first, pass_first, ChangeGood, change_good}
use Rattle.named.specs.Named.{Passes, Finds, Places, Takes}

-- edge memory that passes check 3, as the scan finds it
scanned : (vertices : ℕ) (xs : List ℕ) {n : ℕ} → edge_memory? vertices xs ≡ true → n ≡ length (standing xs) → scan_of vertices xs ≡ Some n
unfolding scan_of
scanned vertices xs e q = rw (e, q)

-- a refusal of the first checks is the call's
module _ (h : Size) (from label to : ℕ) (m : Memory) where
  pub insert_stops : (r : Refusal) → change_refusal h from label to m ≡ number_of r → insert_refusal h from label to m ≡ number_of r
  unfolding change_refusal insert_refusal
  insert_stops r e = stop_first (change_checks h from label to m) _ e (number_some r)

  pub remove_stops : (r : Refusal) → change_refusal h from label to m ≡ number_of r → remove_refusal h from label to m ≡ number_of r
  unfolding change_refusal remove_refusal
  remove_stops r e = stop_first (change_checks h from label to m) _ e (number_some r)

module _ {h : Size} {from label to : ℕ} {m : Memory} where
  module _ {n : ℕ} (p : Passes h from label to m n) where
    pub good : ChangeGood h from label to m
    good = change_good h from label to m p.is

    pub memory : Scans h.vertices m.edges n
    memory = scans h.vertices m.edges (scanned h.vertices m.edges good.memory p.count)

    -- the edge has a number, and is looked up among rising ones
    pub numbered : (from < most_vertices) × ((label < from_unit / label_unit) × (to < label_unit))
    numbered = (omega (arith, good.from_vertex, good.header.vertices_most), (omega (arith, good.label_most), omega (arith, good.to_vertex, good.header.vertices_most)))

    pub searchable : (n ≤ length m.edges) × Rising (take n m.edges)
    searchable = (memory.within, rw memory.front memory.rising)

  -- what the lookup found
  module _ {n at : ℕ} where
    stood : Finds h from label to m n (Ok at) → Stands (edge_number from label to) (standing m.edges) at
    stood f = stands (edge_number from label to) (standing m.edges) (rw (memory f.passes).front at f.is)

    lacked : Finds h from label to m n (Err at) → Lacks (edge_number from label to) (standing m.edges) at
    lacked f = lacks (edge_number from label to) (standing m.edges) (memory f.passes).rising (rw (memory f.passes).front at f.is)

    in_true : Finds h from label to m n (Ok at) → mem? (edge_number from label to) (standing m.edges) ≡ true
    in_true f = test_true (test_mem _ (standing m.edges)) (stood f).member

    in_false : Finds h from label to m n (Err at) → mem? (edge_number from label to) (standing m.edges) ≡ false
    in_false f = test_false (test_mem _ (standing m.edges)) (lacked f).absent

    -- insertion: 7 if the edge stands, then 9 if all slots are taken
    pub insert_present : Finds h from label to m n (Ok at) → insert_refusal h from label to m ≡ 7
    unfolding change_refusal insert_refusal
    insert_present f = pass_first (change_checks h from label to m) _ tt f.passes.is ∙ first_is (stop (ap not (in_true f)))

    pub insert_full : Finds h from label to m n (Err at) → length m.edges ≤ n → insert_refusal h from label to m ≡ 9
    unfolding change_refusal insert_refusal
    insert_full f l =
        pass_first (change_checks h from label to m) _ tt f.passes.is
        ∙ first_is (pass (ap not (in_false f)) (stop (test_false (test_lt (length (standing m.edges)) (length m.edges)) (λ k. omega (arith, k, l, f.passes.count)))))

    pub places : Finds h from label to m n (Err at) → n < length m.edges → Places h from label to m n at
    unfolding change_refusal insert_refusal
    places f l =
        record {
          is =
              pass_first (change_checks h from label to m) _ tt f.passes.is
              ∙ first_is (pass (ap not (in_false f)) (pass (test_true (test_lt (length (standing m.edges)) (length m.edges)) (omega (arith, l, f.passes.count))) none));
          passes = f.passes;
          place = record { zeros = (memory f.passes).holds.zeros; place = (lacked f).place; room = omega (arith, l, f.passes.count) };
        }

    -- removal: 8 if the edge does not stand
    pub remove_absent : Finds h from label to m n (Err at) → remove_refusal h from label to m ≡ 8
    unfolding change_refusal remove_refusal
    remove_absent f = pass_first (change_checks h from label to m) _ tt f.passes.is ∙ first_is (stop (in_false f))

    pub takes : Finds h from label to m n (Ok at) → Takes h from label to m n at
    unfolding change_refusal remove_refusal
    takes f =
        let there : get_or m.edges at 0 ≡ edge_number from label to =
        sym (get_or-take n m.edges at 0 (omega (arith, (stood f).inside, f.passes.count)))
        ∙ ap (λ (l : List ℕ). get_or l at 0) (memory f.passes).front
        ∙ (stood f).there in
        record {
          is = pass_first (change_checks h from label to m) _ tt f.passes.is ∙ first_is (pass (in_true f) none);
          passes = f.passes;
          place = record { zeros = (memory f.passes).holds.zeros; place = rw there (stood f).place; inside = (stood f).inside };
          there = there;
        }

-- what the last checks leave
first_of : {n : ℕ} {b : Bool} {l : List Check} → Passed ((n, b) ∷ l) → b ≡ true
first_of (also e p) = e

module _ {h : Size} {from label to : ℕ} {m : Memory} {n at : ℕ} where
  pub places_absent : Places h from label to m n at → ¬ (edge_number from label to ∈ standing m.edges)
  unfolding change_refusal insert_refusal
  places_absent p =
      test_yields (test_not (test_mem (edge_number from label to) (standing m.edges)))
      (first_of (passes _ tt (sym (pass_first (change_checks h from label to m) _ tt p.passes.is) ∙ p.is)))

  pub takes_present : Takes h from label to m n at → edge_number from label to ∈ standing m.edges
  unfolding change_refusal remove_refusal
  takes_present p =
      test_yields (test_mem (edge_number from label to) (standing m.edges))
      (first_of (passes _ tt (sym (pass_first (change_checks h from label to m) _ tt p.passes.is) ∙ p.is)))
