use native.Mathlib.Omega.{arith}
use Rattle.frontier.proofs.Spreading.{rest_least}
use Rattle.route_search.proofs.Finding.{paused_state}
use Rattle.route_search.proofs.Taking.{take_open, reach_ready, reach_turn, branch_over}
use Rattle.route_search.proofs.expand.Goals as goal

pub branch-branch-requires : goal.branch-branch-requires
branch-branch-requires c = rw c.from-node.ensures (paused_state c.requires.searchable c.requires.paused.0 c.requires.paused.1)

pub loop-edge-init : goal.loop-edge-init
loop-edge-init c =
    let b = c.branch-branch.ensures in
    take_open c.requires.searchable c.requires.paused.0 c.requires.paused.1 (rw c.from-node.ensures at b.key) b.from.under

pub state-requires : goal.state-requires
state-requires c = (rest_least c.requires.searchable.rises c.branch-branch.ensures.from _ c.loop-edge-test.true, omega arith)

pub reach-n-requires : goal.reach-n-requires
reach-n-requires c =
    let searchable = c.requires.searchable in
    let b = c.branch-branch.ensures in
    let least = rest_least searchable.rises b.from _ c.loop-edge-test.true in
    reach_ready searchable _ _ _ c.loop-edge.invariant c.loop-edge-test.true (rw c.from-node.ensures at b.key) (rw c.from-node.ensures at b.base) least (omega arith) c.state.ensures

pub loop-edge-preserved : goal.loop-edge-preserved
loop-edge-preserved c =
    let searchable = c.requires.searchable in
    let b = c.branch-branch.ensures in
    let least = rest_least searchable.rises b.from _ c.loop-edge-test.true in
    reach_turn searchable _ _ _ c.loop-edge.invariant c.loop-edge-test.true (rw c.from-node.ensures at b.key) (rw c.from-node.ensures at b.base) least (omega arith) c.state.ensures c.reach-n.ensures

pub returns-after-loop-edge : goal.returns-after-loop-edge
returns-after-loop-edge c = branch_over c.requires.searchable _ _ c.loop-edge.invariant (rw c.from-node.ensures at c.branch-branch.ensures.key) (λ h. absurd (omega arith))

pub returns-then-end-edge : goal.returns-then-end-edge
returns-then-end-edge c = branch_over c.requires.searchable _ _ c.loop-edge.invariant (rw c.from-node.ensures at c.branch-branch.ensures.key) (λ h. omega arith)
