-- `level_search::is_run` meets its contract: it is true exactly if the search's reply is yes.
use mathlib.Core.Path.{◌≡◌}
use mathlib.Core.Bool.{true}
use Rattle.std.proofs.Common.{rules}
use Rattle.std.specs.Prelude.{Ok}
use Rattle.model.specs.Replies.{reply_of}
use Rattle.model.specs.Computed.Levels.{is_yes?}
use Rattle.level_search.proofs.Call.{not_yes, finds}
use Rattle.level_search.proofs.is_run.Goals as goal

pub returns-in-Yes : goal.returns-in-Yes
returns-in-Yes c =
    let e = c.new-search.ensures in
    let yes : true ≡ is_yes? (reply_of (Ok c.run-reply.result)) = search rules in
    finds c.requires.0 (rw (e.vertices, e.edges, e.pattern, e.start, e.destination) at c.run-reply.ensures) yes

pub returns-in_default : goal.returns-in_default
returns-in_default c =
    let e = c.new-search.ensures in
    finds c.requires.0 (rw (e.vertices, e.edges, e.pattern, e.start, e.destination) at c.run-reply.ensures) (not_yes c.run-reply.result c.in_default.not-Yes)
