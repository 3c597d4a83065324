use mathlib.Core.Path.{◌≡◌, refl, sym, ◌∙◌}
use mathlib.Core.Bool.{Bool, true, false, cond}
use mathlib.Core.List.{List}
use Prim.Native.Nat.{ℕ, ◌+◌, ◌-◌, ◌≤◌, ◌<◌}
use native.Mathlib.Omega.{arith}
use lib.ListN.{length, get_or, take, drop}
use Rattle.std.specs.Prelude.{Some, None}
use Rattle.std.specs.Bool.{then_some}
use Rattle.model.specs.Computed.Edges.{edge?, zeros?}
use Rattle.model.proofs.Checked.{checked_rest, checked_next, checked_zeros, checked_end}
use Rattle.edges.specs.Memory.{scan_of}
use Rattle.edges.proofs.Scanning.{scan_from}
use Rattle.edges.proofs.scan.Goals as goal

-- slot i is read
module _ (vertices prev i : ℕ) (edges : List ℕ) (so_far : scan_from vertices prev i (drop i edges) ≡ scan_of vertices edges) where
  -- it does not rise: the reply is what the test for zeros says of it and the slots behind it
  rest : (b : Bool) → get_or edges i 0 ≤ prev → zeros? (take (length edges - i) (drop i edges)) ≡ b → cond b (Some i) None ≡ scan_of vertices edges
  rest b l e =
      sym (checked_zeros Some None edges i b e)
      ∙ (sym (checked_rest Some None (edge? vertices) prev edges i l) ∙ so_far)

  -- it rises: the reply goes on behind it if it is an edge
  onward : (b : Bool) → i < length edges → prev < get_or edges i 0 → edge? vertices (get_or edges i 0) ≡ b
      → cond b (scan_from vertices (get_or edges i 0) (i + 1) (drop (i + 1) edges)) None ≡ scan_of vertices edges
  onward b h l e =
      sym (checked_next Some None (edge? vertices) prev edges i h l b e) ∙ so_far

some_if : (b : Bool) (i : ℕ) → then_some b i ≡ cond b (Some i) None
some_if true i = refl
some_if false i = refl

pub loop-i-preserved : goal.loop-i-preserved
loop-i-preserved c = onward _ _ _ _ c.loop-i.invariant true c.loop-i-test.true c.if-x-prev.false (sym c.is_edge.ensures ∙ c.if-not-is_edge.false)

pub returns-then-x-prev : goal.returns-then-x-prev
returns-then-x-prev c = c.then_some.ensures ∙ some_if c.all_zero.result c.loop-i.i ∙ rest _ _ _ _ c.loop-i.invariant c.all_zero.result c.if-x-prev.true (sym c.all_zero.ensures)

pub returns-then-not-is_edge : goal.returns-then-not-is_edge
returns-then-not-is_edge c = onward _ _ _ _ c.loop-i.invariant false c.loop-i-test.true c.if-x-prev.false (sym c.is_edge.ensures ∙ c.if-not-is_edge.true)

pub returns : goal.returns
returns c =
    let end : c.loop-i.i ≡ length c.args.edges.now = omega arith in
    rw (← end) (sym (checked_end Some None (edge? c.args.vertices) c.loop-i.prev c.args.edges.now c.loop-i.i c.loop-i-test.false) ∙ c.loop-i.invariant)
