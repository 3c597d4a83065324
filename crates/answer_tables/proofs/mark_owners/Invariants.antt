-- `answer_tables::mark_owners` meets its contract.
use Rattle.model.specs.Computed.Query.{owner_of}
use Rattle.answer_tables.specs.Marking.{joined?}
use Rattle.answer_tables.proofs.Marking.{Marking}
use Rattle.answer_tables.proofs.mark_owners.Given as goal

abbrev pub invariant-loop-x : goal.invariant-loop-x
invariant-loop-x l = Marking (joined? l.code l.hubs) owner_of l.entries l.initial.marks l.marks l.x-index
