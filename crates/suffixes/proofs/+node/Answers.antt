use mathlib.Core.Path.{sym, ◌∙◌}
use Prim.Native.Nat.{◌+◌, ◌<◌}
use lib.ListN.{length}
use native.Mathlib.Omega.{arith}
use Rattle.suffixes.proofs.Noding.{going_skip, going_more, child_node, node_full, node_short, node_over, node_all}
use Rattle.suffixes.proofs.+node.Goals as goal
use Rattle.suffixes.proofs.+node.Goals.{then-is_some+in_ok-n-2, else-is_some}

pub returns-in_err-n : goal.returns-in_err-n
returns-in_err-n t c = rw c.from_residual.ensures (node_full c.requires (rw c.in_err-n.was at c.level.ensures))

pub returns-then-search-len : goal.returns-then-search-len
returns-then-search-len t c = node_short c.requires (rw c.in_ok-n.was at c.level.ensures) (omega (arith, c.if-search-len.true, c.len.ensures))

pub node-requires : goal.node-requires
node-requires t c =
    let pre = c.requires in
    let deep : length c.args.word.now + 1 < c.args.search.longest = omega (arith, c.if-search-len.false, c.len.ensures) in
    let level = rw c.in_ok-n.was at c.level.ensures in
    rw (c.with.ensures, c.child_row-row.ensures) (
      omega (arith, c.decreases, pre.chosen.more, deep),
      child_node pre level c.loop-c.invariant c.loop-c-test.true (omega (arith, pre.listable, c.level.auto.live, c.loop-c.auto.live)) deep,
    )

pub returns-in_err-n-2 : goal.returns-in_err-n-2
returns-in_err-n-2 t c =
    let pre = c.requires in
    let level = rw c.in_ok-n.was at c.level.ensures in
    let more = rw (c.in_err-n-2.was, c.with.ensures) at c.node.ensures in
    rw c.from_residual-in_err-n-2.ensures
    (node_over pre level (going_more pre level c.loop-c.invariant c.loop-c-test.true more) (omega (arith, c.loop-c-test.true)))

pub loop-c-preserved : goal.loop-c-preserved
loop-c-preserved t c =
    let inv = c.loop-c.invariant in
    let pre = c.requires in
    let level = rw c.in_ok-n.was at c.level.ensures in
    let here = c.loop-c-test.true in
    elim c.if-is_some.branch [
      | then-is_some+in_ok-n-2 x ↦
          let more = rw (x.in_ok-n-2.was, x.with.ensures) at x.node.ensures in
          rw (x.w-is, x.n-is) (going_more pre level inv here more)
      | else-is_some x ↦
          let first = rw c.child_row-row.ensures at c.next.ensures in
          rw (x.w-is, x.n-is) (going_skip pre level inv here _ first (sym c.is_some.ensures ∙ x.if-is_some.false))
    ]

pub returns : goal.returns
returns t c =
    node_all c.requires (rw c.in_ok-n.was at c.level.ensures) c.loop-c.invariant (omega (arith, c.loop-c.auto.c-end))
    (omega (arith, c.loop-c-test.false))
