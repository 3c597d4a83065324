-- The build as a whole: the entries staged and the index written, or left as it was.
use mathlib.Core.Path.{◌≡◌, refl, sym, ap, subst, ◌∙◌}
use mathlib.Core.List.{List, ◌++◌, map}
use Prim.Native.Nat.{ℕ, ◌+◌, ◌≤◌, ◌<◌}
use native.Mathlib.Omega.{arith}
use lib.ListN.{length, take, drop, length-append, length-drop, get_or-append}
use lib.Seq.{length-take-le, get_or-take}
use borrow.Rule.Slice.PartMut.{same_len_mid}
use Rattle.std.specs.Prelude.{Option, Some, None}
use Rattle.model.specs.Limits.{least_work}
use Rattle.model.specs.Edges.{Graph}
use Rattle.model.specs.Order.{Names}
use Rattle.model.specs.Computed.Edges.{Small}
use Rattle.model.specs.Computed.Order.{counted}
use Rattle.model.specs.Computed.Entries.{determined}
use Rattle.model.specs.Build.Renumber.{translate}
use Rattle.model.proofs.Tests.{test_true, test_false, test_lt}
use Rattle.rows.specs.Region.{saved_rows, root_row}
use Rattle.rows.specs.Rows.{KeepsRows, InRows}
use Rattle.rows.proofs.Rows.{keeps_then}
use Rattle.staging.specs.Stage.{room_of, staged, Adds, Over, Stages}
use Rattle.staging.proofs.Adding.{adds_kept, over_kept}
use Rattle.output.specs.Output.{IndexWritable, WritesIndex}
use Rattle.output.proofs.Putting.{translate_narrow, translate_distinct}
use Rattle.build.specs.Build.{Buildable, list_of, Builds}
use Rattle.build.specs.Staging.{GraphStages, staged_list}
use Rattle.build.proofs.Listing.{staged_length, staged_distinct, staged_translatable, listing_length, written_listing, too_many}

-- with the counted order they are the determined entries
pub list_determined : (g : Graph) (order : List ℕ) → take g.vertices order ≡ counted g → list_of g order ≡ determined g
unfolding determined
list_determined g order e = rw e refl

-- the staged numbers written over: what lies before them is kept
part_keeps : (k : ℕ) (w part : List ℕ) → least_work + k ≤ length w → length part ≡ length (take k (drop least_work w))
    → KeepsRows w (take least_work w ++ (part ++ drop k (drop least_work w))) (InRows saved_rows root_row)
part_keeps k w part room e =
    record {
      len = same_len_mid least_work k w part e;
      same = λ i x.
          let h : i < least_work = omega (arith, x.most) in
          get_or-append (take least_work w) (part ++ drop k (drop least_work w)) 0 i (omega (arith, length-take-le least_work w (omega arith)))
          ∙ get_or-take least_work w i 0 h;
    }

-- the front of work memory was lent: behind its rows it has k slots, and what lies behind them is as it was
abbrev whole : List ℕ → List ℕ → ℕ → List ℕ
whole w part k = part ++ drop (least_work + k) w

module _ (w part : List ℕ) (k : ℕ) (room : least_work + k ≤ length w) where
  module _ {P : ℕ → Type 0} {r : Option ℕ} (s : Stages (take (least_work + k) w) (InRows saved_rows root_row) P 0 part r) where
    lent_length : length part ≡ least_work + k
    lent_length = s.keeps.len ∙ length-take-le (least_work + k) w room

    whole_saved : KeepsRows w (whole w part k) (InRows saved_rows root_row)
    whole_saved =
        record {
          len = omega (arith, length-append part (drop (least_work + k) w), length-drop (least_work + k) w, lent_length);
          same = λ i x.
              let h : i < least_work = omega (arith, x.most) in
              get_or-append part (drop (least_work + k) w) 0 i (omega (arith, lent_length))
              ∙ (s.keeps.same i x ∙ get_or-take (least_work + k) w i 0 (omega arith));
        }

    whole_staged : (i : ℕ) → i < k → staged (whole w part k) i ≡ staged part i
    whole_staged i h = get_or-append part (drop (least_work + k) w) 0 (least_work + i) (omega (arith, lent_length))

  module _ {P : ℕ → Type 0} where
    whole_over : Stages (take (least_work + k) w) (InRows saved_rows root_row) P 0 part None → Over (whole w part k) 0 k P
    whole_over s =
        let e : room_of (take (least_work + k) w) ≡ k = omega (arith, length-take-le (least_work + k) w room) in
        over_kept (whole_staged s) (rw e at s.over)

    module _ {n : ℕ} (s : Stages (take (least_work + k) w) (InRows saved_rows root_row) P 0 part (Some n)) where
      whole_fits : n ≤ k
      whole_fits = omega (arith, s.done.0, length-take-le (least_work + k) w room)

      whole_adds : Adds (whole w part k) 0 n P
      whole_adds = adds_kept (λ i h. whole_staged s i (omega (arith, whole_fits))) s.done.1

module _ {vertices longest : ℕ} {edges order w : List ℕ} (index : List ℕ) (b : Buildable vertices longest edges order (length index) w) where
  abbrev g : Graph
  g = record { vertices = vertices; longest = longest; edges = edges }

  small : Small g
  small = record { vertices_small = b.bounds.vertices_most; longest_small = b.bounds.longest_most }

  pub order_front : vertices ≡ length (take vertices order)
  order_front = sym (length-take-le vertices order b.ordered.named.long)

  names : Names vertices (take vertices order)
  names = b.ordered.named.names

  module _ (part : List ℕ) where
    abbrev w₁ : List ℕ
    w₁ = whole w part (length index)

    pub builds_none : GraphStages vertices longest edges order (take (least_work + length index) w) part None → Builds g order index w index w₁ None
    builds_none s =
        let more = too_many longest names s.renumbers small (whole_over w part (length index) b.work s.stages) in
        let e = test_true (test_lt (length index) (length (list_of g order))) more in
        record { reply = rw e refl; index_is = rw e refl; saved = whole_saved w part (length index) b.work s.stages }

    -- the code lends k numbers, which is how n comes out of a subtraction
    module _ {n : ℕ} (s : GraphStages vertices longest edges order (take (least_work + length index) w) part (Some n)) {k : ℕ} (e : k ≡ n) where
      fits : n ≤ length index
      fits = whole_fits w part (length index) b.work s.stages

      there : least_work + n ≤ length w₁
      there = omega (arith, (whole_saved w part (length index) b.work s.stages).len, fits, b.work)

      pub writable : IndexWritable (take vertices order) (take k (drop least_work w₁)) index
      writable =
          let a = whole_adds w part (length index) b.work s.stages in
          let t = staged_translatable longest names s.renumbers small a there in
          rw e (record {
            fits = omega (arith, fits, staged_length w₁ n there);
            translatable = t;
            distinct = translate_distinct t names (staged_distinct a there);
            narrow = translate_narrow t;
          })

      pub builds_all : {index' : List ℕ} (taken : List ℕ) → length taken ≡ length (take k (drop least_work w₁))
          → WritesIndex (map (translate (take vertices order)) (take k (drop least_work w₁))) index index'
          → Builds g order index w index' (take least_work w₁ ++ (taken ++ drop k (drop least_work w₁))) (Some n)
      builds_all {index'} taken l z' =
          let z = subst (λ (m : ℕ). WritesIndex (map (translate (take vertices order)) (staged_list w₁ m)) index index') e z' in
          let a = whole_adds w part (length index) b.work s.stages in
          let size = listing_length longest names s.renumbers small a there z.sorts in
          let q = test_false (test_lt (length index) (length (list_of g order))) (λ l. omega (arith, fits, size, l)) in
          record {
            reply = rw q (ap Some size);
            index_is = rw q (written_listing longest names s.renumbers small a there z);
            saved = keeps_then (whole_saved w part (length index) b.work s.stages) (part_keeps k w₁ taken (omega (arith, there)) l);
          }
