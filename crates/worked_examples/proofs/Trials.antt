-- All trial runs of the table hold, by one computed test; so each does.
use mathlib.Core.List.{Memᴰ}
use lib.Dec.{T}
use Rattle.model.specs.Lists.{any?, keep, from}
use Rattle.model.specs.Edges.{standing, total_of, totals_of}
use Rattle.model.specs.Patterns.{times, code_from}
use Rattle.model.specs.Order.{weight, rank}
use Rattle.model.specs.Computed.Lists.{all?, spread}
use Rattle.model.specs.Computed.Edges.{edge?, zeros?, rising_edges?, edge_memory?, remove_edge}
use Rattle.model.specs.Computed.Patterns.{keyed?, repeat_from, min_repeat, times_written, once?, own?, words, keyed_patterns, patterns}
use Rattle.model.specs.Computed.Order.{insert_by_weight, by_weight, counted}
use Rattle.model.specs.Computed.Levels.{states, leads?, led?, grow, stage, reply_from, level_reply, runs?}
use Rattle.model.specs.Computed.Routes.{follows?, visit, visit_all, search, pick, route_of}
use Rattle.model.specs.Computed.Entries.{stop?, all_stops, earliest?, out?, in?, of_hub, of_owner, of_side, entries, determined}
use Rattle.model.specs.Computed.Query.{digits, code?, entry?, rising_entries?, index_memory?, answers?}
use Rattle.model.proofs.Tests.{test_all, test_T}
use Rattle.calls.specs.Checks.{first_refusal}
use Rattle.calls.specs.Search.{search_refusal, search_call}
use Rattle.calls.specs.Route.{lighting, route_call}
use Rattle.calls.specs.Query.{ask_refusal, full_refusal, full_call, lacking?, query_call}
use Rattle.calls.specs.Change.{settle, remove_refusal, remove_change, remove_call}
use Rattle.calls.specs.Card.{edges_of, rising_triples?, card_edges?, read_refusal, read_change, read_call}
use Rattle.worked_examples.specs.Trials.{Case, A, one_leg, two_legs, loop_two, two_ways, figure2, table_ii, slots_a, damaged_a, loop, B, removed_b, card_a, trials, holds?, build_lent, leaves?, same_reply?, same_routed?, lights?, same_answer?, refused?, hands_back?, entries_of}

all_hold : T (all? holds? trials)
unfolding A one_leg two_legs loop_two two_ways figure2 table_ii slots_a damaged_a loop B removed_b card_a trials holds? build_lent leaves? same_reply? same_routed? lights? same_answer? refused? hands_back? entries_of any? all? keep from spread edge? zeros? rising_edges? edge_memory? standing remove_edge times keyed? repeat_from min_repeat times_written once? own? code_from words keyed_patterns patterns weight insert_by_weight by_weight counted rank states leads? led? grow stage reply_from level_reply runs? follows? visit visit_all search pick route_of stop? all_stops earliest? out? in? of_hub of_owner of_side entries determined digits code? entry? rising_entries? index_memory? answers? total_of totals_of first_refusal search_refusal search_call lighting route_call ask_refusal full_refusal full_call lacking? query_call settle remove_refusal remove_change remove_call edges_of rising_triples? card_edges? read_refusal read_change read_call
all_hold = tt

pub each_holds : (c : Case) → Memᴰ c trials → T (holds? c)
each_holds c m = (test_all (λ c. test_T (holds? c)) trials).yields all_hold c m
