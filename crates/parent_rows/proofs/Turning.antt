-- A word's rows, label by label from its end: one turn, all of them, and emptied again.
use mathlib.Core.Path.{◌≡◌, sym, ◌∙◌}
use mathlib.Core.Logic.{⊎_elim, inl, inr}
use mathlib.Core.List.{List, [], ◌∷◌}
use Prim.Native.Nat.{ℕ, suc, ◌+◌, ◌-◌, ◌*◌, ◌%◌, ◌≤◌, ◌<◌}
use native.Mathlib.Omega.{arith}
use native.Mathlib.Decide.{ℕ_discrete}
use lib.ListN.{length, get_or, take, drop}
use lib.Seq.{drop-length, drop-cons}
use Rattle.model.specs.Limits.{most_vertices, most_label, least_work}
use Rattle.model.specs.Lists.{◌∈◌}
use Rattle.model.specs.Edges.{edge_number}
use Rattle.model.proofs.Lists.{get_d_in}
use Rattle.edges.specs.Grouped.{section, Grouped}
use Rattle.rows.specs.Region.{step_rows, parent_rows, saved_rows, child_rows}
use Rattle.rows.specs.Rows.{On, Row, KeepsRows, InRows, Empty}
use Rattle.rows.proofs.Rows.{row_as, keeps_none, keeps_as, keeps_then, keeps_long, keeps_cell, keeps_row, keeps_empty}
use Rattle.parent_rows.specs.Steps.{Trail, Word, half_of, source_row, Sources, FillsParent, ParentClearable}
use Rattle.steps.specs.Filling.{Clears, FillsRows, Starting, LeadsTo, LeadsInto, Gathers, RowsFillable, EndsFillable, SourcesClearable, Prependable, Prepends}
use Rattle.parent_rows.proofs.Trails.{trail_none, trail_edge}
use Rattle.steps.proofs.Live.{Via, Started, live_outgoing, live_leads, label_outgoing, label_starting, label_leads, label_via, label_fits}

-- a half's rows lie before the others
pub halves_keep : {w w' : List ℕ} {base : ℕ} → base ≤ parent_rows
    → KeepsRows w w' (λ r. InRows base (base + most_vertices) r → ⊥) → KeepsRows w w' (λ r. saved_rows ≤ r)
halves_keep h = keeps_as (λ r x a. omega (arith, a.most))

-- of two empty halves each is empty
pub half_empty : {w : List ℕ} {base : ℕ} → base ≤ parent_rows → Empty w step_rows (most_vertices + most_vertices) → Empty w base most_vertices
half_empty h quiet = record { none = λ r j x. quiet.none r j (record { least = omega arith; most = omega (arith, x.most) }) }

-- ---- one turn

module _ {first behind w : List ℕ} {from starts : ℕ} {live₀ : List ℕ} (p : Prependable first behind w from starts live₀) where
  pub half_most : from ≤ parent_rows
  half_most = ⊎_elim (λ e. omega arith) (λ e. omega arith) p.half

  -- the halves share no row
  halves_apart : (a b : ℕ) → a < most_vertices → b < most_vertices → from + b ≡ parent_rows - from + a → ⊥
  halves_apart a b h k e = ⊎_elim (λ z. omega arith) (λ z. omega arith) p.half

  outside : (b : ℕ) → b < most_vertices → InRows (parent_rows - from) (parent_rows - from + most_vertices) (from + b) → ⊥
  outside b k x = ⊎_elim (λ z. omega (arith, x.least, x.most)) (λ z. omega (arith, x.least, x.most)) p.half

  other : (a : ℕ) → a < most_vertices → InRows from (from + most_vertices) (parent_rows - from + a) → ⊥
  other a k x = ⊎_elim (λ z. omega (arith, x.least, x.most)) (λ z. omega (arith, x.least, x.most)) p.half

  started : Started w from starts
  started = record { all = λ b t k m o. (p.sources b t k m o).0 }

  module _ {live : List ℕ} {n : ℕ} (l : Gathers first w starts live n) where
    pub prepend_fillable : RowsFillable (take n live) w from (parent_rows - from)
    prepend_fillable =
        record {
          outgoing = live_outgoing l p.outgoing.0;
          long = p.long;
          from_rows = omega (arith, half_most);
          to_rows = omega (arith, half_most);
          apart = halves_apart;
          empty = p.quiet;
        }

    module _ {w' : List ℕ} (f : FillsRows (parent_rows - from) (LeadsInto (take n live) w from) w w') where
      pub prepend_clearable : SourcesClearable behind w' from
      prepend_clearable =
          record {
            outgoing = p.outgoing.1;
            long = keeps_long f.keeps p.long;
            base_rows = omega (arith, half_most);
            sources = λ a t h k o. (p.sources a t h k (sym (keeps_cell f.keeps (from + a) (outside a h) t k) ∙ o)).1;
          }

      pub prepend_all : {w'' : List ℕ} → Clears w' w'' from most_vertices → Prepends first w w'' from
      prepend_all z =
          record {
            keeps = keeps_then (halves_keep (omega arith) f.keeps) (halves_keep half_most z.keeps);
            quiet = z.empty;
            rows = λ a h. keeps_row z.keeps (other a h) (row_as (λ t k. live_leads l started k) (f.rows a h));
          }

-- ---- the word, label by label

pub label_range : {l : List ℕ} → Word l → (i : ℕ) → i < length l → (1 ≤ get_or l i 0) × (get_or l i 0 ≤ most_label)
label_range {l} word i h = word.labels (get_or l i 0) (get_d_in l i h)

-- a trail by the labels from number i on starts with an edge of label i
pub record FirstEdge (edges l : List ℕ) (i a t : ℕ) : Type 0 where
  pub b : ℕ
  pub small : b < most_vertices
  pub stands : edge_number a (get_or l i 0) b ∈ edges
  pub rest : Trail edges b (drop (suc i) l) t

module _ {edges l : List ℕ} {i a t : ℕ} (h : i < length l) where
  pub trail_first : Trail edges a (drop i l) t → FirstEdge edges l i a t
  trail_first p =
      let (b, small, stands, rest) = trail_edge (rw (drop-cons l i 0 h) at p) in
      record { b = b; small = small; stands = stands; rest = rest }

  pub first_trail : FirstEdge edges l i a t → Trail edges a (drop i l) t
  first_trail x = rw (drop-cons l i 0 h) (Trail.edge x.small x.stands x.rest)

-- the rows of their half are where the labels from number i on lead, and the other half is empty
pub record Turning (edges l w w' : List ℕ) (i : ℕ) : Type 0 where
  pub inside : i < length l
  pub keeps : KeepsRows w w' (λ r. saved_rows ≤ r)
  pub quiet : Empty w' (parent_rows - half_of i) most_vertices
  pub rows : (a : ℕ) → a < most_vertices → Row w' (half_of i + a) (Trail edges a (drop i l))

-- the last label
module _ {edges slots l : List ℕ} {i : ℕ} (g : Grouped edges slots) (word : Word l) (here : i < length l) where
  module _ {w : List ℕ} (quiet : Empty w step_rows (most_vertices + most_vertices)) where
    pub ends_fillable : {part : List ℕ} → part ≡ section edges slots (get_or l i 0 - 1) → least_work ≤ length w → EndsFillable part w (half_of i)
    ends_fillable e long =
        rw e (record {
          outgoing = label_outgoing g (get_or l i 0) (label_range word i here);
          long = long;
          to_rows = omega arith;
          empty = half_empty (omega arith) quiet;
        })

    pub turning_last : {part w' : List ℕ} → part ≡ section edges slots (get_or l i 0 - 1) → i + 1 ≡ length l → FillsRows (half_of i) (LeadsTo part) w w'
        → Turning edges l w' w' i
    turning_last {part} {w'} e last f =
        record {
          inside = here;
          keeps = keeps_none;
          quiet = keeps_empty f.keeps (λ r x y. omega (arith, x.least, x.most, y.least, y.most)) (half_empty (omega arith) quiet);
          rows = λ a h. row_as (λ t k. (λ x. first_trail here (into a t k x), λ p. back a t k (trail_first here p))) ((rw e at f).rows a h);
        }
      where
        none : drop (suc i) l ≡ []
        none = let e : suc i ≡ length l = omega arith in rw e (drop-length l)

        into : (a t : ℕ) → t < most_vertices → LeadsTo (section edges slots (get_or l i 0 - 1)) a t → FirstEdge edges l i a t
        into a t k x =
            record { b = t; small = k; stands = (label_leads g (get_or l i 0) (label_range word i here) a t k).0 x; rest = rw none Trail.here }

        back : (a t : ℕ) → t < most_vertices → FirstEdge edges l i a t → LeadsTo (section edges slots (get_or l i 0 - 1)) a t
        back a t k x =
            let e : x.b ≡ t = trail_none (rw none at x.rest) in
            (label_leads g (get_or l i 0) (label_range word i here) a t k).1 (rw e at x.stands)

-- one label more, number i
module _ {edges slots l w w' : List ℕ} (i : ℕ) (g : Turning edges l w w' (i + 1)) (grouped : Grouped edges slots) (word : Word l) where
  inside : i < length l
  inside = omega (arith, g.inside)

  range : (1 ≤ get_or l i 0) × (get_or l i 0 ≤ most_label)
  range = label_range word i inside

  last_range : (1 ≤ get_or l (i + 1) 0) × (get_or l (i + 1) 0 ≤ most_label)
  last_range = label_range word (i + 1) g.inside

  pub turning_prependable : {first behind w₀ live : List ℕ} {starts : ℕ} → first ≡ section edges slots (get_or l i 0 - 1)
      → behind ≡ section edges slots (get_or l (i + 1) 0 - 1) → starts ≡ child_rows + most_label * (length l - 1 - 1 - i) + get_or l (i + 1) 0 - 1
      → Sources edges l w₀ → KeepsRows w₀ w (λ r. saved_rows ≤ r) → length edges ≤ length live → Prependable first behind w' (half_of (i + 1)) starts live
  turning_prependable {w₀ = w₀} {starts = starts} first_is behind-is row s e room =
      rw (first_is, behind-is) (record {
        long = keeps_long kept s.long;
        half = elim (ℕ_discrete ((i + 1) % 2) 0) [ yes z ↦ inr (omega arith) | no z ↦ inl (omega arith) ];
        starts_row = omega (arith, last_range, word.short);
        outgoing = (label_outgoing grouped (get_or l i 0) range, label_outgoing grouped (get_or l (i + 1) 0) last_range);
        quiet = g.quiet;
        sources = λ a t h k o. let p = (g.rows a h).only t k o in (on a h t p, starting a t p);
        room = omega (arith, label_fits grouped (get_or l i 0) range);
      })
    where
      kept : KeepsRows w₀ w' (λ r. saved_rows ≤ r)
      kept = keeps_then e g.keeps

      on : (a : ℕ) → a < most_vertices → (t : ℕ) → Trail edges a (drop (i + 1) l) t → On w' starts a
      on a h t p =
          let q : starts ≡ source_row l (i + 1) = omega (arith, last_range) in
          rw q (keeps_cell kept (source_row l (i + 1)) (omega arith) a h ∙ s.all (i + 1) a t g.inside h p)

      starting : (a t : ℕ) → Trail edges a (drop (i + 1) l) t → Starting (section edges slots (get_or l (i + 1) 0 - 1)) a
      starting a t p = let x = trail_first g.inside p in label_starting grouped (get_or l (i + 1) 0) last_range a x.b x.small x.stands

  pub turning_more : {first w'' : List ℕ} → first ≡ section edges slots (get_or l i 0 - 1) → Prepends first w' w'' (half_of (i + 1))
      → Turning edges l w w'' i
  turning_more {first} {w''} first_is p =
      record {
        inside = inside;
        keeps = keeps_then g.keeps p.keeps;
        quiet = let e : parent_rows - half_of i ≡ half_of (i + 1) = omega arith in rw e p.quiet;
        rows = λ a h. rw turn (row_as (λ t k. (
          λ x. first_trail inside (led a t k ((label_via grouped (get_or l i 0) range).0 x)),
          λ q. (label_via grouped (get_or l i 0) range).1 (leads a t k (trail_first inside q)),
        )) ((rw first_is at p).rows a h));
      }
    where
      is : suc i ≡ i + 1
      is = omega arith

      turn : half_of i ≡ parent_rows - half_of (i + 1)
      turn = omega arith

      led : (a t : ℕ) → t < most_vertices → Via edges w' (half_of (i + 1)) a (get_or l i 0) t → FirstEdge edges l i a t
      led a t k x =
          record { b = x.b; small = x.small; stands = x.stands; rest = rw is ((g.rows x.b x.small).only t k x.on) }

      leads : (a t : ℕ) → t < most_vertices → FirstEdge edges l i a t → Via edges w' (half_of (i + 1)) a (get_or l i 0) t
      leads a t k x =
          record { b = x.b; small = x.small; stands = x.stands; on = (g.rows x.b x.small).all t k (rw is at x.rest) }

-- ---- the whole word

pub turning_all : {edges l w₀ w w' : List ℕ} → KeepsRows w₀ w (λ r. saved_rows ≤ r) → Turning edges l w w' 0 → FillsParent edges l w₀ w'
turning_all e g = record { keeps = keeps_then e g.keeps; quiet = g.quiet; parent = record { rows = g.rows } }

-- no label
pub no_label : {edges w w' : List ℕ} (l : List ℕ) → length l ≡ 0 → Empty w step_rows (most_vertices + most_vertices)
    → FillsRows parent_rows (λ a t. t ≡ a) w w' → FillsParent edges l w w'
no_label [] e quiet f =
    record {
      keeps = halves_keep (omega arith) f.keeps;
      quiet = keeps_empty f.keeps (λ r x y. omega (arith, x.most, y.least)) (half_empty (omega arith) quiet);
      parent = record { rows = λ a h. row_as (λ t _. (λ q. rw q Trail.here, λ p. sym (trail_none p))) (f.rows a h) };
    }
no_label (x ∷ l) e quiet f = absurd (omega arith)

-- ---- emptied again

-- the rows that the word has filled are those of vertices with an edge of its first label
pub parent_clearable : {edges slots l w part : List ℕ} → ParentClearable edges slots l w → 0 < length l → part ≡ section edges slots (get_or l 0 0 - 1)
    → SourcesClearable part w parent_rows
parent_clearable {edges} {slots} {l} {w} p here e =
    let range = label_range p.word 0 here in
    rw e (record {
      outgoing = label_outgoing p.grouped (get_or l 0 0) range;
      long = p.long;
      base_rows = omega arith;
      sources = λ a t h k o.
          let x = trail_first here ((p.parent.rows a h).only t k o) in
          label_starting p.grouped (get_or l 0 0) range a x.b x.small x.stands;
    })
