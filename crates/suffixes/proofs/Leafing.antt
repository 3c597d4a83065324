-- The entries with one label before a word: its edges gathered, its row filled, and the entries staged.
use mathlib.Core.Path.{◌≡◌, sym, ◌∙◌}
use mathlib.Core.Bool.{true, false}
use mathlib.Core.Logic.Iff
use mathlib.Core.Logic.{◌↔◌}
use mathlib.Core.List.Memᴰ
use mathlib.Core.List.{List, [], ◌∷◌}
use Prim.Native.Nat.{ℕ, suc, ◌+◌, ◌*◌, ◌≤◌, ◌<◌}
use native.Mathlib.Omega.{arith}
use lib.ListN.{length, take}
use Rattle.std.specs.Prelude.{Option, Some}
use Rattle.model.specs.Limits.{hub_unit, most_vertices, most_label}
use Rattle.model.specs.Lists.{◌∈◌}
use Rattle.model.specs.Edges.{to_of}
use Rattle.model.specs.Patterns.{Keyed, code}
use Rattle.model.specs.Computed.Patterns.{own?}
use Rattle.model.specs.Build.Hubs.{Plus}
use Rattle.model.specs.Build.Suffixes.{Leaf}
use Rattle.model.proofs.Tests.{test_yields, test_fails}
use Rattle.model.proofs.Patterns.{test_own, code_below}
use Rattle.model.proofs.Hubs.{entry_by_as}
use Rattle.edges.specs.Grouped.{section}
use Rattle.rows.specs.Region.{step_rows, parent_rows, child_rows}
use Rattle.rows.specs.Rows.{cell, KeepsRows, InRows, Empty, Becomes}
use Rattle.rows.proofs.Rows.{keeps_cell, keeps_row, keeps_empty}
use Rattle.model.proofs.Plus.{plus_as}
use Rattle.staging.specs.Stage.{HasTaken, Stages}
use Rattle.staging.proofs.Adding.{stages_none, stages_as, stages_since, stages_within}
use Rattle.parent_rows.specs.Steps.{Trail}
use Rattle.steps.specs.Filling.{Outgoing, Starting, LeadsInto, Gatherable, Gathers}
use Rattle.parent_rows.proofs.Trails.{trail_edge, edge_trail}
use Rattle.steps.proofs.Live.{Via, Started, section_fits, section_outgoing, section_leads, live_outgoing, live_via}
use Rattle.pattern_entries.specs.Pattern.{Led, PatternStageable, PatternStages, LedEntry}
use Rattle.suffixes.specs.Suffixes.{Spans, PatternEntry, base_of, ChildRow, LeafStageable, LeafStages}
use Rattle.suffixes.proofs.Entries.{no_entry}
use Rattle.suffixes.proofs.Children.{child_labels}

module _ {edges slots word w : List ℕ} {starts : ℕ} {live : List ℕ} {longest cnt : ℕ}
    (l : LeafStageable edges slots word w starts live longest cnt) where
  -- what staging needs is kept, if the parent's rows and those before the children's are
  pub stageable_kept : {w' live' : List ℕ} {K : ℕ → Type 0} {n : ℕ} → KeepsRows w w' K → ((q : ℕ) → InRows parent_rows (base_of word) q → K q)
      → Empty w' step_rows most_vertices → length edges ≤ length live' → HasTaken w' n → LeafStageable edges slots word w' starts live' longest n
  stageable_kept k f quiet listable h =
      record {
        grouped = l.grouped;
        chosen = l.chosen;
        parent = record { rows = λ a i. keeps_row k (f _ (record { least = omega arith; most = omega arith })) (l.parent.rows a i) };
        least = l.least;
        before = l.before;
        spelled = λ a t i trail. keeps_cell k starts (f _ (record { least = omega (arith, l.least); most = l.before })) a i ∙ l.spelled a t i trail;
        quiet = quiet;
        listable = listable;
        taken = h;
      }

  -- where the word leads from, row `starts` has
  started : Started w parent_rows starts
  started = record { all = λ b t h k on. l.spelled b t h ((l.parent.rows b h).only t k on) }

-- ---- one label

none_taken : (n : ℕ) (l : List ℕ) {x : ℕ} → n ≡ 0 → x ∈ take n l → ⊥
none_taken n l z m = Memᴰ.not-nil (rw z at m)

module _ {edges slots word w : List ℕ} {starts : ℕ} {live : List ℕ} {longest cnt c : ℕ}
    (l : LeafStageable edges slots word w starts live longest cnt) (small : c < most_label) where
  -- its row is before those of more labels
  deep : base_of word + c < child_rows + most_label * longest
  deep = omega (arith, l.chosen.more)

  -- the edges that are cut out are those of the label, if they have its number
  pub of_label : {part : List ℕ} {k : ℕ} → part ≡ section edges slots k → k ≡ c → part ≡ section edges slots c
  of_label e same = rw same at e

  pub gatherable : Gatherable (section edges slots c) w starts live
  gatherable =
      record {
        has = record { row = omega (arith, l.before, l.chosen.more, l.chosen.most); long = omega (arith, l.taken) };
        room = omega (arith, section_fits l.grouped c small, l.listable);
      }

  -- ---- the pattern
  pub keyed : Keyed longest (suc c ∷ word)
  keyed =
      record {
        long = omega arith;
        short = omega (arith, l.chosen.more);
        labels = child_labels l.chosen small;
      }

  -- an entry has room for its code
  pub code_fits : {m : ℕ} → m ≡ code (suc c ∷ word) → m < hub_unit
  code_fits e = omega (arith, e, code_below l.chosen.most keyed)

  -- ---- the edges gathered
  module _ {live' : List ℕ} {n : ℕ} (g : Gathers (section edges slots c) w starts live' n) where
    abbrev gathered : List ℕ
    gathered = take n live'

    -- they have room
    pub gathered_fit : n ≤ length live
    gathered_fit = omega (arith, g.fits, section_fits l.grouped c small, l.listable)

    pub outgoing : Outgoing gathered
    outgoing = live_outgoing g (section_outgoing l.grouped c small)

    -- one starts at each vertex from which the pattern can be spelled
    spelled_from : (a t : ℕ) → Trail edges a (suc c ∷ word) t → Starting gathered a
    spelled_from a t trail =
        let (m, k, stands, rest) = trail_edge trail in
        let x = (section_leads l.grouped c small a m k).1 stands in
        record { edge = x.edge; listed = g.all x.edge x.listed (rw x.to (l.spelled m t k rest)); from = x.from }

    none_gathered : n ≡ 0 → (e : ℕ) → PatternEntry edges (suc c ∷ word) e → ⊥
    none_gathered z = no_entry (suc c ∷ word) (λ a t k trail. none_taken n live' z (spelled_from a t trail).listed) []

    -- ---- and the child's row made of them
    module _ {w₁ : List ℕ} (b : Becomes w w₁ (base_of word + c) (Starting gathered)) where
      filled : ChildRow edges word w₁ c (base_of word + c)
      filled = record { has = λ a t k trail. b.row.all a k (spelled_from a t trail) }

      taken : HasTaken w₁ cnt
      taken = omega (arith, l.taken, b.keeps.len)

      quiet : Empty w₁ step_rows most_vertices
      quiet = keeps_empty b.keeps (λ q x e. omega (arith, x.most)) l.quiet

      -- staged since the row was made
      since : {K P : ℕ → Type 0} {w₂ : List ℕ} {r : Option ℕ} → ((q : ℕ) → InRows parent_rows (base_of word + c) q → K q) → Stages w₁ K P cnt w₂ r
          → Stages w (InRows parent_rows (base_of word + c)) P cnt w₂ r
      since f s =
          stages_since (stages_within s f) b.keeps (λ q x e. omega (arith, x.most)) (λ q h e. omega (arith, deep, l.chosen.most))

      leaf_none : ((e : ℕ) → Leaf longest (PatternEntry edges) word c e → ⊥)
          → LeafStages edges word w c (Leaf longest (PatternEntry edges) word c) cnt w₁ (Some cnt)
      leaf_none none = record { stages = since (λ q x. x) (stages_none taken none); child = filled; quiet = quiet }

      -- no edge is gathered
      pub leaf_empty : n ≡ 0 → LeafStages edges word w c (Leaf longest (PatternEntry edges) word c) cnt w₁ (Some cnt)
      leaf_empty z = leaf_none (λ e p. none_gathered z e p.holds)

      -- the pattern is no minimum repeat
      pub leaf_folds : own? (suc c ∷ word) ≡ false → LeafStages edges word w c (Leaf longest (PatternEntry edges) word c) cnt w₁ (Some cnt)
      leaf_folds e = leaf_none (λ x p. test_fails (test_own (suc c ∷ word) keyed.long) e p.pattern.own)

      -- ---- the edges and the word lead where the pattern does
      kept : LeafStageable edges slots word w₁ starts live longest cnt
      kept = stageable_kept l b.keeps (λ q x e. omega (arith, x.most)) quiet l.listable taken

      -- row `starts` is as it was
      gathers : Gathers (section edges slots c) w₁ starts live' n
      gathers =
          record {
            fits = g.fits;
            only = λ x m. let (i, on) = g.only x m in (i, same x ∙ on);
            all = λ x m on. g.all x m (sym (same x) ∙ on);
          }
        where
          same : (x : ℕ) → cell w₁ starts (to_of x) ≡ cell w starts (to_of x)
          same x = keeps_cell b.keeps starts (λ e. omega (arith, l.before)) (to_of x) (omega arith)

      led_spans : (a t : ℕ) → Led gathered w₁ a t ↔ Spans edges (suc c ∷ word) a t
      led_spans a t = (
        λ h. let v = (via h.to).0 h.via in record {
          from = h.from;
          to = h.to;
          trail = edge_trail v.small v.stands ((kept.parent.rows v.b v.small).only t h.to v.on);
        },
        λ h. let (m, k, stands, trail) = trail_edge h.trail in record {
          from = h.from;
          to = h.to;
          via = (via h.to).1 (record { b = m; small = k; stands = stands; on = (kept.parent.rows m k).all t h.to trail });
        },
      )
        where
          via : t < most_vertices → LeadsInto gathered w₁ parent_rows a t ↔ Via edges w₁ parent_rows a (suc c) t
          via k = live_via l.grouped c small gathers (started kept) k

      pub pattern_stageable : PatternStageable gathered w₁ (base_of word + c) cnt
      pattern_stageable =
          record {
            outgoing = outgoing;
            least = omega arith;
            most = omega (arith, deep, l.chosen.most);
            quiet = quiet;
            sources = b.row;
            taken = taken;
          }

      pub leaf_stages : {m : ℕ} → m ≡ code (suc c ∷ word) → own? (suc c ∷ word) ≡ true → {w₂ : List ℕ} {r : Option ℕ}
          → PatternStages w₁ (LedEntry gathered w₁ m) cnt w₂ r
          → LeafStages edges word w c (Leaf longest (PatternEntry edges) word c) cnt w₂ r
      leaf_stages {m} e own {w₂} {r} p =
          record {
            stages = since (λ q x. record { least = x.least; most = omega (arith, x.most, deep, l.chosen.most) })
                (stages_as (rw e at p.stages) (λ x. (there x, back x)));
            child = record {
              has = λ a t k trail.
                  keeps_cell p.stages.keeps (base_of word + c) (record { least = omega arith; most = omega (arith, deep, l.chosen.most) }) a k
                  ∙ filled.has a t k trail;
            };
            quiet = p.quiet;
          }
        where
          same : (a t : ℕ) → Plus (Led gathered w₁) a t ↔ Plus (Spans edges (suc c ∷ word)) a t
          same = plus_as led_spans

          there : (x : ℕ) → LedEntry gathered w₁ (code (suc c ∷ word)) x → Leaf longest (PatternEntry edges) word c x
          there x q =
              record {
                pattern = record { keyed = keyed; own = test_yields (test_own (suc c ∷ word) keyed.long) own };
                holds = entry_by_as same q;
              }

          back : (x : ℕ) → Leaf longest (PatternEntry edges) word c x → LedEntry gathered w₁ (code (suc c ∷ word)) x
          back x q = entry_by_as (λ a t. Iff.symm (same a t)) q.holds
