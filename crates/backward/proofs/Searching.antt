-- The level search over the edges turned round, by the pattern from its end, tells what the search backward is to tell.
use mathlib.Core.Path.{◌≡◌, sym, ap, ◌∙◌}
use mathlib.Core.Bool.{Bool}
use mathlib.Core.List.{List, map, reverse}
use Prim.Native.Nat.{ℕ, ◌≤◌}
use native.Mathlib.Omega.{arith}
use lib.ListN.{length, length-map, length-reverse}
use Rattle.model.specs.Limits.{most_edges}
use Rattle.model.specs.Turned.{turned, Labelled}
use Rattle.model.proofs.Reversal.{edge_from, back_edge, turned_round, runs_turned}
use Rattle.sort.specs.Order.{Sorts}
use Rattle.frontier.specs.Search.{Searchable}
use Rattle.reachable.specs.Reached.{TellsFrom}
use Rattle.backward.specs.Turning.{Turnable, TellsTo}

-- what is handed on is as long as what came
pub round_long : (edges : List ℕ) {round : List ℕ} → Sorts (map turned edges) round → length edges ≡ length round
round_long edges s = sym (s.size ∙ length-map edges turned)

pub back_long : (l : List ℕ) {back : List ℕ} → back ≡ reverse l → length l ≡ length back
back_long l b = sym (ap length b ∙ length-reverse l)

module _ {vertices : ℕ} {edges l : List ℕ} {t : ℕ} (p : Searchable vertices edges l t t) where
  pub turnable : length edges ≤ most_edges → Turnable edges
  turnable few = record { few = few; rises = p.rises; starts = λ x m. edge_from vertices p.vertices_small x (p.valid x m) }

  module _ {round back : List ℕ} (s : Sorts (map turned edges) round) (b : back ≡ reverse l) where
    pub searchable_back : Searchable vertices round back t t
    searchable_back = record {
      vertices_small = p.vertices_small;
      rises = s.rises;
      valid = back_edge p.vertices_small p.valid s.same;
      short = record { least = omega (arith, back_long l b, p.short.least); most = omega (arith, back_long l b, p.short.most) };
      start = p.start;
      destination = p.destination;
    }

    pub tells_to : {table : List Bool} → Labelled l → TellsFrom vertices round back t table → TellsTo vertices edges l t table
    tells_to labels f = record {
      is = record {
        each = λ v h.
            let r = turned_round p.vertices_small p.valid s.same in
            (rw b at (f.is.each v h)) ∙ sym (runs_turned p.vertices_small r l p.short.least labels v t h p.start);
      };
    }
