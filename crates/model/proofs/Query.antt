-- The two promises of the index, for any order that names each vertex once: the query on it is right, and none of its entries can be spared.
use mathlib.Core.Logic.{inl, inr, ◌↔◌}
use mathlib.Core.Bool.{Bool}
use mathlib.Core.List.{List}
use Prim.Native.Nat.{ℕ}
use lib.Dec.{T}
use Rattle.model.specs.Lists.{◌∈◌, keep}
use Rattle.model.specs.Edges.{Graph}
use Rattle.model.specs.Walks.{Runs}
use Rattle.model.specs.Order.{Names}
use Rattle.model.specs.Entries.{Asked, out_entry, in_entry}
use Rattle.model.specs.Query.{Answers, target, source, shared}
use Rattle.model.specs.Computed.Edges.{Small}
use Rattle.model.specs.Computed.Entries.{entries}
use Rattle.model.specs.Computed.Query.{answers?}
use Rattle.model.proofs.Tests.{Tests, test_map, test_and, test_or, test_mem, test_any}
use Rattle.model.proofs.Lists.{keep_out, up_to_lem, below}
use Rattle.model.proofs.Search.{runs_dec}
use Rattle.model.proofs.Index.{earliest, sound, complete, necessary}
use Rattle.model.proofs.Entries.{entries_in, entries_out}

pub test_answers : (vertices : ℕ) (index l : List ℕ) (s t : ℕ) → Tests (answers? vertices index l s t) (Answers vertices index l s t)
unfolding answers?
test_answers vertices index l s t = test_map
    (λ h. elim h [ inl m ↦ target m | inr (inl m) ↦ source m | inr (inr (h, i, (m, n))) ↦ shared h (below i) m n ])
    (λ k. elim k [ target m ↦ inl m | source m ↦ inr (inl m) | shared h b m n ↦ inr (inr (h, up_to_lem b, (m, n))) ])
    (test_or (test_mem _ index) (test_or (test_mem _ index) (test_any (λ h. test_and (test_mem (out_entry s h l) index) (test_mem (in_entry t h l) index)) _)))

-- a query that is rightly a yes, and that the index answers no
pub record Lost (g : Graph) (index : List ℕ) : Type 0 where
  pub pattern : List ℕ
  pub start : ℕ
  pub destination : ℕ
  pub asked : Asked g pattern start destination
  pub runs : Runs g pattern start destination
  pub answered_no : ¬ Answers g.vertices index pattern start destination

module _ (g : Graph) (order : List ℕ) (small : Small g) where
  -- the query on the determined entries is yes if a walk runs the pattern, and only then
  pub right : {l : List ℕ} {s t : ℕ} → Asked g l s t → Answers g.vertices (entries g order) l s t ↔ Runs g l s t
  right {l} q = (
    sound small (λ e m. entries_out g order small m) q,
    λ r. complete (λ e m. entries_in g order small m) q
        (earliest order (λ a b ha hb. runs_dec g l small.vertices_small q.pattern.keyed.long a b ha hb) q.from r).1,
  )

  -- with one of the determined entries gone, a query that is rightly a yes is answered no
  pub none_spared : Names g.vertices order → (index : List ℕ) → ((e : ℕ) → e ∈ index → e ∈ entries g order)
      → (e : ℕ) → e ∈ entries g order → ¬ (e ∈ index) → Lost g index
  none_spared names index part e m gone =
      let (l, s, t, q, r, n) = necessary small (λ x k. entries_out g order small (part x k)) names (entries_out g order small m) gone in
      record { pattern = l; start = s; destination = t; asked = q; runs = r; answered_no = n }

  -- the same of entries struck out: f says which are kept
  pub struck_out : Names g.vertices order → (f : ℕ → Bool) (e : ℕ) → e ∈ entries g order → ¬ T (f e) → Lost g (keep f (entries g order))
  struck_out names f e m gone = none_spared names (keep f (entries g order)) (λ x k. (keep_out f (entries g order) k).0) e m (λ k. gone (keep_out f (entries g order) k).1)
