-- `suffixes::leaves` meets its contract: the entries with each of the first c labels are staged.
use Rattle.std.specs.Prelude.{Some}
use Rattle.model.specs.Build.Suffixes.{Leaf, Some as Below}
use Rattle.suffixes.specs.Suffixes.{PatternEntry, LeavesStage}
use Rattle.suffixes.proofs.leaves.Given as goal

abbrev pub invariant-loop-c : goal.invariant-loop-c
invariant-loop-c l =
    let edges = l.search.edges.now in
    LeavesStage edges l.word l.initial.w l.c (Below l.c (Leaf l.search.longest (PatternEntry edges) l.word)) l.cnt l.w (Some l.n)
