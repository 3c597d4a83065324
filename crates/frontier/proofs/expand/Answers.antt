use native.Mathlib.Omega.{arith}
use Rattle.frontier.proofs.Leads.{branch_all}
use Rattle.frontier.proofs.Spreading.{rest_least, run_none, run_more}
use Rattle.frontier.proofs.expand.Goals as goal

pub loop-edge-init : goal.loop-edge-init
loop-edge-init c = run_none _ _ _ _ c.branch-branch.ensures.from.under _ _

pub state-requires : goal.state-requires
state-requires c = (rest_least c.args.search.now.rises c.branch-branch.ensures.from _ c.loop-edge-test.true, omega arith)

pub loop-edge-preserved : goal.loop-edge-preserved
loop-edge-preserved c =
    let least = rest_least c.args.search.now.rises c.branch-branch.ensures.from _ c.loop-edge-test.true in
    run_more _ _ _ _ _ least (omega arith) c.state.ensures c.loop-edge.invariant c.reach-n.ensures

pub returns-after-loop-edge : goal.returns-after-loop-edge
returns-after-loop-edge c =
    let b = c.branch-branch.ensures in
    branch_all c.args.search.now.rises b.key b.base b.from.under.most c.loop-edge.auto.edge-index-end (λ h. absurd (omega arith)) c.loop-edge.invariant

pub returns-then-end-edge : goal.returns-then-end-edge
returns-then-end-edge c =
    let b = c.branch-branch.ensures in
    branch_all c.args.search.now.rises b.key b.base b.from.under.most c.loop-edge.auto.edge-index-end (λ h. omega arith) c.loop-edge.invariant
