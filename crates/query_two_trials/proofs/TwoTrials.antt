-- The trials of out by one pattern and home by another, by computation.
use mathlib.Core.Path.{refl}
use Rattle.model.specs.Lists.{any?, keep, from}
use Rattle.model.specs.Edges.{standing, total_of, totals_of}
use Rattle.model.specs.Patterns.{times, code_from}
use Rattle.model.specs.Order.{weight, rank}
use Rattle.model.specs.Computed.Lists.{all?, spread}
use Rattle.model.specs.Computed.Edges.{edge?, rising_edges?, edge_memory?}
use Rattle.model.specs.Computed.Patterns.{keyed?, repeat_from, min_repeat, times_written, once?, own?, words, keyed_patterns, patterns}
use Rattle.model.specs.Computed.Order.{insert_by_weight, by_weight, counted}
use Rattle.model.specs.Computed.Levels.{states, leads?, led?, grow, stage, reply_from, level_reply, runs?}
use Rattle.model.specs.Computed.Entries.{stop?, all_stops, earliest?, out?, in?, of_hub, of_owner, of_side, entries, determined}
use Rattle.model.specs.Computed.Query.{digits, code?, entry?, rising_entries?, index_memory?, answers?}
use Rattle.calls.specs.Checks.{first_refusal}
use Rattle.calls.specs.Query.{ask_refusal, full_refusal, full_call, lacking?, query_call}
use Rattle.calls.specs.QueryTwo.{two_refusal, either_lacks?, both_once?, by_middles, query_two_call}
use Rattle.worked_examples.specs.Trials.{A, slots_a, damaged_a, one_leg, two_ways, entries_of}
use Rattle.query_two_trials.specs.TwoTrials.{turned_a, TwoTrials}

pub two_trials : TwoTrials
unfolding A slots_a damaged_a turned_a one_leg two_ways entries_of any? all? keep from spread edge? rising_edges? edge_memory? standing times keyed? repeat_from min_repeat times_written once? own? code_from words keyed_patterns patterns weight insert_by_weight by_weight counted rank states leads? led? grow stage reply_from level_reply runs? stop? all_stops earliest? out? in? of_hub of_owner of_side entries determined digits code? entry? rising_entries? index_memory? answers? total_of totals_of first_refusal ask_refusal full_refusal full_call lacking? query_call two_refusal either_lacks? both_once? by_middles query_two_call
two_trials =
    record {
      over_1 = refl;
      over_0 = refl;
      no_way_home = refl;
      lowest_given = refl;
      keyed_twice = refl;
      work_zero = refl;
      work_found = refl;
      lacking_second = refl;
      lacking_first = refl;
      then_12 = refl;
      first_11 = refl;
      second_11 = refl;
      repeating_12 = refl;
      repeating_3 = refl;
      repeating_4 = refl;
      once_unread = refl;
    }
