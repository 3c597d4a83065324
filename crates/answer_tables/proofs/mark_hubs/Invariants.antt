-- `answer_tables::mark_hubs` meets its contract.
use Rattle.model.specs.Computed.Query.{hub_of}
use Rattle.answer_tables.specs.Marking.{coded?}
use Rattle.answer_tables.proofs.Marking.{Marking}
use Rattle.answer_tables.proofs.mark_hubs.Given as goal

abbrev pub invariant-loop-x : goal.invariant-loop-x
invariant-loop-x l = Marking (coded? l.code) hub_of l.list l.initial.marks l.marks l.x-index
