-- The recursion of `suffixes::node`. The measure is how many labels are left.
use Rattle.std.proofs.Common.{◌-◌, Some, length}
use Rattle.suffixes.proofs.Noding.{Going}
use Rattle.suffixes.proofs.+node.Given as goal

abbrev pub decreases-node : goal.decreases-node
decreases-node l = l.search.longest - length l.word.now

abbrev pub invariant-loop-c : goal.invariant-loop-c
invariant-loop-c l = Going l.search.edges.now l.word l.initial.w l.search.longest l.initial.n l.w (Some l.n) l.c
