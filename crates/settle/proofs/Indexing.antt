-- The access order counted in the front of work memory, and the build in that order: together the index that the edges determine.
use mathlib.Core.Path.{◌≡◌, refl, sym, ap, ◌∙◌}
use mathlib.Core.Bool.{cond}
use mathlib.Core.List.{List, ◌++◌}
use Prim.Native.Nat.{ℕ, ◌+◌, ◌-◌, ◌≤◌}
use native.Mathlib.Omega.{arith}
use lib.Dec.{ltb}
use lib.ListN.{length, get_or, take, drop}
use lib.Seq.{length-take-le, length_front, get_or-append-add, get_or-drop}
use Rattle.model.specs.Limits.{most_vertices}
use Rattle.model.specs.Lists.{filled}
use Rattle.model.specs.Edges.{Graph}
use Rattle.model.specs.Order.{weight}
use Rattle.model.specs.Computed.Edges.{bare}
use Rattle.model.specs.Computed.Order.{counted}
use Rattle.model.specs.Computed.Entries.{determined}
use Rattle.model.proofs.Tests.{test_yields}
use Rattle.model.proofs.Order.{counted_names}
use Rattle.model.proofs.Edges.{test_edge}
use Rattle.rows.specs.Region.{saved_numbers}
use Rattle.rows.proofs.Rows.{keeps_then}
use Rattle.order.specs.Work.{count_numbers}
use Rattle.order.specs.Counting.{Countable, Counts}
use Rattle.build.specs.Build.{Buildable, Builds, Saved, list_of}
use Rattle.std.proofs.Common.{Option, Some, None, Result, Ok, Err}
use Rattle.build.proofs.Building.{list_determined}
use Rattle.settle.specs.Indexing.{Indexable, Indexes}

-- the longest pattern plays no part in the access order
same_order : (g : Graph) → counted (bare g.vertices g.edges) ≡ counted g
unfolding counted weight
same_order g = refl

-- other numbers in front of place m leave saved edge memory as it is
saved_behind : (m : ℕ) (part w : List ℕ) → m ≤ saved_numbers → length part ≡ length (take m w) → m ≤ length w → Saved w (part ++ drop m w)
saved_behind m part w h e l =
    let size : length part ≡ m = e ∙ length-take-le m w l in
    record {
      len = length_front w part m e;
      same = λ k x.
          let at : length part + (k - m) ≡ k = omega (arith, size, x.least, h) in
          let back : m + (k - m) ≡ k = omega (arith, x.least, h) in
          sym (ap (λ (i : ℕ). get_or (part ++ drop m w) i 0) at)
          ∙ get_or-append-add part (drop m w) (k - m) 0 ∙ get_or-drop m w (k - m) 0 ∙ ap (λ (i : ℕ). get_or w i 0) back;
    }

module _ {vertices longest : ℕ} {edges index work : List ℕ} (b : Indexable vertices longest edges index work) where
  abbrev g : Graph
  g = record { vertices = vertices; longest = longest; edges = edges }

  pub room_front : count_numbers ≡ length (take count_numbers work)
  room_front = sym (length-take-le count_numbers work (omega (arith, b.room)))

  pub countable : {order : List ℕ} → most_vertices ≤ length order → Countable vertices edges (take count_numbers work) order
  countable l = record {
    vertices_small = b.bounds.vertices_most;
    edges_few = b.few;
    starts = λ x m. (test_yields (test_edge vertices x) (b.valid x m)).from;
    ends = λ x m. omega (arith, (test_yields (test_edge vertices x) (b.valid x m)).from, b.bounds.vertices_most);
    work_room = omega (arith, room_front);
    order_room = l;
  }

  in_order : {order order' : List ℕ} → Counts vertices edges order order' → take vertices order' ≡ counted g
  in_order o = o.is ∙ same_order g

  module _ {order order' : List ℕ} (part : List ℕ) (l : most_vertices ≤ length order) (o : Counts vertices edges order order') (e : length part ≡ length (take count_numbers work)) where
    pub buildable : Buildable vertices longest edges order' (length index) (part ++ drop count_numbers work)
    buildable = record {
      ordered = record {
        named = record {
          vertices_small = b.bounds.vertices_most;
          long = omega (arith, l, o.same_length, b.bounds.vertices_most);
          names = rw (in_order o) (counted_names g);
        };
        few = b.few;
        rises = b.rises;
        valid = b.valid;
      };
      bounds = b.bounds;
      work = omega (arith, length_front work part count_numbers e, b.room);
    }

    pub indexes : {index' work' : List ℕ} {r : Option ℕ} → Builds g order' index (part ++ drop count_numbers work) index' work' r → Indexes g index work index' work' r
    indexes {index'} {work'} {r} z =
        let d : list_of g order' ≡ determined g = list_determined g order' (in_order o) in
        record {
          reply = z.reply ∙ ap (λ (q : List ℕ). cond (ltb (length index) (length q)) None (Some (length q))) d;
          index_is = z.index_is ∙ ap (λ (q : List ℕ). cond (ltb (length index) (length q)) index (filled (length index) q)) d;
          saved = keeps_then (saved_behind count_numbers part work (omega arith) e (omega (arith, b.room))) z.saved;
        }
