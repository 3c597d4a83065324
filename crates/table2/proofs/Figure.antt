-- The graph of Fig. 2 of paper 004 with its access order: `build` may be called on them, and the entries are Table II, by computing.
use mathlib.Core.Path.{◌≡◌, refl, ap, ◌∙◌}
use mathlib.Core.List.{List, [], ◌∷◌, ◌++◌}
use Prim.Native.Nat.{ℕ, ◌+◌, ◌-◌, ◌≤◌}
use native.Mathlib.Omega.{arith}
use borrow.Author.Tests.{le-ltb}
use lib.ListN.{length, take, replicate, length-append}
use lib.Seq.{take_at}
use Rattle.model.specs.Limits.{least_work}
use Rattle.model.specs.Lists.{any?, keep, from}
use Rattle.model.specs.Edges.{Graph, standing}
use Rattle.model.specs.Patterns.{times, code_from}
use Rattle.model.specs.Order.{weight, rank, Names}
use Rattle.model.specs.Computed.Lists.{all?, spread}
use Rattle.model.specs.Computed.Edges.{edge?, zeros?, rising_edges?, edge_memory?}
use Rattle.model.specs.Computed.Patterns.{repeat_from, min_repeat, own?, words, keyed_patterns, patterns}
use Rattle.model.specs.Computed.Order.{insert_by_weight, by_weight, counted}
use Rattle.model.specs.Computed.Levels.{states, leads?, led?, grow, stage, reply_from, level_reply, runs?}
use Rattle.model.specs.Computed.Entries.{stop?, all_stops, earliest?, out?, in?, of_hub, of_owner, of_side, entries}
use Rattle.model.proofs.Tests.{same_out}
use Rattle.model.proofs.Order.{counted_names}
use Rattle.edges.specs.Memory.{scan_of}
use Rattle.edges.proofs.Memory.{Scans, scans}
use Rattle.build.specs.Build.{Buildable, Builds}
use Rattle.std.specs.Prelude.{Option, Some}
use Rattle.worked_examples.specs.Trials.{figure2, table_ii}

abbrev pub edges : List ℕ
edges = 257 ∷ 514 ∷ 4356 ∷ 4612 ∷ 8449 ∷ 8453 ∷ 8704 ∷ 8707 ∷ 12544 ∷ 13061 ∷ 16640 ∷ []

abbrev pub order : List ℕ
order = 0 ∷ 2 ∷ 1 ∷ 3 ∷ 4 ∷ 5 ∷ []

abbrev pub graph : Graph
graph = record { vertices = 6; longest = 2; edges = edges }

-- they are the trial's edges
pub figure : edges ≡ figure2.edges
unfolding figure2
figure = refl

-- the paper's order is document 01's access order
counted_order : counted graph ≡ order
unfolding counted by_weight insert_by_weight weight keep from
counted_order = refl

names : Names 6 order
names = rw counted_order at (counted_names graph)

scanned : Scans 6 edges 11
unfolding scan_of edge_memory? rising_edges? zeros? edge? standing
scanned = scans 6 edges refl

pub buildable : {slots : ℕ} {w : List ℕ} → least_work + slots ≤ length w → Buildable 6 2 edges order slots w
unfolding standing
buildable room = record {
  ordered = record { named = record { vertices_small = omega arith; long = omega arith; names = names }; few = omega arith; rises = scanned.rising; valid = scanned.edges };
  bounds = omega arith;
  work = room;
}

pub table_II : entries graph order ≡ table_ii
unfolding table_ii any? all? keep from spread times repeat_from min_repeat own? code_from words keyed_patterns patterns rank states leads? led? grow stage reply_from level_reply runs? stop? all_stops earliest? out? in? of_hub of_owner of_side entries
table_II = same_out (entries graph order) table_ii tt

pub table_entries : length table_ii ≡ 26
unfolding table_ii
table_entries = refl

-- what `build` leaves in 26 slots or more: its reply, and index memory with Table II in front
pub record BuildsTable (index : List ℕ) (r : Option ℕ) : Type 0 where
  pub reply : r ≡ Some 26
  pub slots : 26 ≤ length index
  pub front : take 26 index ≡ table_ii

pub built : {index w index' w' : List ℕ} {r : Option ℕ} → 26 ≤ length index → Builds graph order index w index' w' r → BuildsTable index' r
built {index} {w} {index'} {w'} {r} h b =
    let fits = le-ltb (length index) 26 h in
    let reply : r ≡ Some 26 = rw (table_II, table_entries, fits) at b.reply in
    let is : index' ≡ table_ii ++ replicate (length index - 26) 0 = rw (table_II, table_entries, fits) at b.index_is in
    record {
      reply = reply;
      slots = omega (arith, ap length is, length-append table_ii (replicate (length index - 26) 0), table_entries);
      front = ap (take 26) is ∙ take_at table_ii (replicate (length index - 26) 0) 26 table_entries;
    }
