-- What the single questions tell of the edges and entries that stand, as tables.
use mathlib.Core.Path.{◌≡◌, refl, sym, ap, ap₂}
use mathlib.Core.Bool.{Bool, true, false, ◌&&◌}
use mathlib.Core.List.{List}
use Prim.Native.Nat.{ℕ}
use lib.ListN.{get_or}
use Rattle.model.specs.Lists.{keep, up_to}
use Rattle.model.specs.Tables.{Tabulates}
use Rattle.model.specs.Computed.Edges.{bare}
use Rattle.model.specs.Computed.Levels.{runs?}
use Rattle.model.specs.Computed.Patterns.{once?}
use Rattle.model.specs.Computed.Query.{answers?}
use Rattle.model.proofs.Lists.{keep_as, below}
use Rattle.model.proofs.Tables.{tabulates_as}
use Rattle.calls.specs.QueryTwo.{lowest}
use Rattle.answer.specs.declared.Side.{Side}
use Rattle.answer.specs.declared.Side.TheVariants.{Out, In}
use Rattle.answer_tables.specs.Saying.{SaysOf}
use Rattle.reachable.specs.Reached.{TellsFrom}
use Rattle.backward.specs.Turning.{TellsTo}
use Rattle.middles.specs.Meeting.{told?, led?, Puttable}

-- ---- what a single question tells

module _ (vertices : ℕ) (edges index l : List ℕ) (s t : ℕ) where
  pub told_once : once? l ≡ true → told? vertices edges index l s t ≡ answers? vertices index l s t
  unfolding told?
  told_once e = rw e refl

  pub told_repeating : once? l ≡ false → told? vertices edges index l s t ≡ runs? (bare vertices edges) l s t
  unfolding told?
  told_repeating e = rw e refl

-- for every vertex
module _ {vertices : ℕ} {edges index l : List ℕ} {v : ℕ} {table : List Bool} (p : Puttable vertices edges index l v) where
  pub led_once : (side : Side) → once? l ≡ true → SaysOf side index l v table → Tabulates vertices table (λ u. led? side vertices edges index l v u)
  led_once Out e says = tabulates_as (says.is vertices p.longest p.searchable.vertices_small p.searchable.start p.indexed) (λ u _. sym (told_once _ edges _ l v u e))
  led_once In e says = tabulates_as (says.is vertices p.longest p.searchable.vertices_small p.searchable.start p.indexed) (λ u _. sym (told_once _ edges _ l u v e))

  pub led_out : once? l ≡ false → TellsFrom vertices edges l v table → Tabulates vertices table (λ u. told? vertices edges index l v u)
  led_out e tells = tabulates_as tells.is (λ u _. sym (told_repeating _ _ index l v u e))

  pub led_in : once? l ≡ false → TellsTo vertices edges l v table → Tabulates vertices table (λ u. told? vertices edges index l u v)
  led_in e tells = tabulates_as tells.is (λ u _. sym (told_repeating _ _ index l u v e))

-- two tables, and the lowest of both
pub tables_meet : {vertices : ℕ} {out home : List Bool} {f g : ℕ → Bool} → Tabulates vertices out f → Tabulates vertices home g
    → lowest (keep (λ v. get_or out v false && get_or home v false) (up_to vertices)) ≡ lowest (keep (λ v. f v && g v) (up_to vertices))
tables_meet {vertices} a b = ap lowest (keep_as (up_to vertices) (λ v k. ap₂ ◌&&◌ (a.each v (below k)) (b.each v (below k))))
