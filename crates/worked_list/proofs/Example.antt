-- The worked list, by computation; the ledger's part by demand 3.
use mathlib.Core.Path.{refl, sym, ap, ◌∙◌}
use Rattle.model.specs.Lists.{Bytes, any?, keep, from}
use Rattle.model.specs.Edges.{standing, total_of, totals_of}
use Rattle.model.specs.Patterns.{times, code_from}
use Rattle.model.specs.Order.{weight, rank}
use Rattle.model.specs.Computed.Lists.{all?, spread}
use Rattle.model.specs.Computed.Edges.{edge?, zeros?, rising_edges?, edge_memory?, insert_edge}
use Rattle.model.specs.Computed.Patterns.{keyed?, repeat_from, min_repeat, own?, words, keyed_patterns, patterns}
use Rattle.model.specs.Computed.Order.{insert_by_weight, by_weight, counted}
use Rattle.model.specs.Computed.Levels.{states, leads?, led?, grow, stage, reply_from, level_reply, runs?}
use Rattle.model.specs.Computed.Entries.{stop?, all_stops, earliest?, out?, in?, of_hub, of_owner, of_side, entries, determined}
use Rattle.model.proofs.Tests.{test_all, test_lt}
use Rattle.calls.specs.Checks.{first_refusal}
use Rattle.calls.specs.Change.{settle, open_refusal, open_change, open_call, insert_refusal, insert_change, insert_call}
use Rattle.calls.specs.Card.{edges_of, rising_triples?, card_edges?, read_refusal, read_change, read_call}
use Rattle.demands.specs.Ledger.{opening_number, Account}
use Rattle.demands.specs.Run.Station.{run}
use Rattle.demands.specs.Run.Demand3.{Demand3}
use Rattle.demands.specs.Terms.{by_opening}
use Rattle.demands.proofs.Demand3.{demand3}
use Rattle.worked_examples.specs.Trials.{A, slots_a, card_a}
use Rattle.worked_list.specs.Example.{garbage, calls, Example}

pub bytes_a : Bytes card_a
unfolding card_a all?
bytes_a = (test_all (λ x. test_lt x 256) card_a).yields tt

-- the opening is one that the ledger accepts, so demand 3 speaks of the list
accounted : Demand3 garbage (calls bytes_a)
unfolding opening_number
accounted = demand3 garbage _ _ by_opening refl

pub example : Example bytes_a
unfolding A slots_a card_a run total_of totals_of open_refusal open_change open_call insert_refusal insert_change insert_call any? all? keep from spread edge? zeros? rising_edges? edge_memory? standing insert_edge times keyed? repeat_from min_repeat own? code_from words keyed_patterns patterns weight insert_by_weight by_weight counted rank states leads? led? grow stage reply_from level_reply runs? stop? all_stops earliest? out? in? of_hub of_owner of_side entries determined first_refusal settle edges_of rising_triples? card_edges? read_refusal read_change read_call
example =
    record {
      replies = refl;
      edges = refl;
      index = refl;
      told = ap (λ (a : Account). a.replies) (sym accounted.is) ∙ sym accounted.replies;
    }
