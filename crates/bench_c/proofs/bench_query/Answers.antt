-- `bench_c::bench_query` meets its contract: the number of the reply that the query ensures, and its work memory.
use mathlib.Core.Path.{◌≡◌, sym, ap, ◌∙◌}
use mathlib.Core.Bool.{Bool}
use Rattle.std.proofs.Common.{Result}
use Rattle.model.specs.Replies.{answered_of}
use Rattle.model.specs.Query.{Answered}
use Rattle.model.specs.declared.Refusal.{Refusal}
use Rattle.calls.specs.Call.{Memory, Outcome, Meets}
use Rattle.bench_c.specs.Bench.{answer_number, QueriesNumber}
use Rattle.bench_c.proofs.bench_query.Goals as goal

-- the number of the reply that was told, and work memory as the query left it
told : {call : Outcome Answered} {reply : Result Bool Refusal} {m : Memory} (r : Result Bool Refusal) → reply ≡ r → Meets call (answered_of reply) m
    → QueriesNumber call (answer_number (answered_of r)) m.work
told r e q = record { reply_is = ap answer_number (ap answered_of (sym e) ∙ q.reply_is); work_after = q.work_after }
