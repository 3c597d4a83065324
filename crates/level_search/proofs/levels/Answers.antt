use mathlib.Core.Path.{refl, ap, ◌∙◌}
use Rattle.model.specs.States.{Yes, No}
use Prim.Native.Nat.{◌≤◌, ◌<◌}
use native.Mathlib.Omega.{arith}
use Rattle.std.proofs.lemmas.Bool.Decides.{nat_tests}
use Rattle.frontier.proofs.Stands.{stands_first}
use Rattle.level_search.proofs.Built.{LevelsBuilt, built_start, built_yes, built_no, built_on, built_spent}
use Rattle.level_search.proofs.levels.Goals as goal
use Rattle.level_search.proofs.levels.Goals.{Else-is_empty}

pub loop-c-init : goal.loop-c-init
loop-c-init c = record {
  built = 0;
  next = refl;
  levels = rw c.from.ensures (built_start _ _ _ _ _ _ (stands_first _ _ _ _ c.requires.searchable c.requires.unmarked));
}

pub returns-then-work-search-eq1 : goal.returns-then-work-search-eq1
returns-then-work-search-eq1 c =
    let so_far = c.loop-c.invariant in
    ap Yes so_far.next ∙ built_yes _ _ _ _ _ _ c.requires.searchable so_far.levels (omega arith) c.next_level-level.ensures.grown c.if-work-search-eq1.true

pub returns-then-is_empty : goal.returns-then-is_empty
returns-then-is_empty c =
    let so_far = c.loop-c.invariant in
    let none : c.next_level-level.result.end ≤ c.next_level-level.result.start = grind (arith, nat_tests) in
    ap No so_far.next ∙ built_no _ _ _ _ _ _ c.requires.searchable so_far.levels (omega arith) c.next_level-level.ensures.grown (omega arith)

-- one level more is built
one_more : (c : Else-is_empty) → LevelsBuilt c.args.search.now.vertices c.args.search.now.edges.now c.args.search.now.pattern.now c.args.search.now.start c.args.search.now.destination
    c.args.limit c.next_level-level.new.work c.next_level-level.result.start c.next_level-level.result.end c.loop-c.c
one_more c =
    let so_far = c.loop-c.invariant in
    let some : c.next_level-level.result.start < c.next_level-level.result.end = grind (arith, nat_tests) in
    rw (so_far.next, c.next_level-level.ensures.start)
    (built_on _ _ _ _ _ _ c.requires.searchable so_far.levels (omega arith) c.next_level-level.ensures.grown c.if-work-search-eq1.false (omega arith))

pub loop-c-preserved : goal.loop-c-preserved
loop-c-preserved c = record { built = c.loop-c.c; next = refl; levels = one_more (goal.at.loop-c-preserved c).Else-is_empty }

pub returns : goal.returns
returns c = built_spent _ _ _ _ _ _ c.loop-c.invariant.levels (omega arith)

pub returns-else-is_empty : goal.returns-else-is_empty
returns-else-is_empty c = built_spent _ _ _ _ _ _ (one_more (goal.at.returns-else-is_empty c).Else-is_empty) (omega arith)
