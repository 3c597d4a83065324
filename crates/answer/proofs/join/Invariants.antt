-- `answer::join` meets its contract. The invariant of both loops: what has been passed shares no hub with the code.
use mathlib.Core.Path.{◌≡◌}
use mathlib.Core.Bool.{false}
use Prim.Native.Nat.{◌≤◌, ◌-◌}
use lib.ListN.{length}
use Rattle.answer.proofs.Joining.{Joining}
use Rattle.answer.proofs.join.Given as goal

-- the inner loop
abbrev pub invariant-loop-j : goal.invariant-loop-j
invariant-loop-j l = (l.j ≤ length l.into) × Joining l.out l.into l.code l.entry-index l.j × (l.found ≡ l.initial.found)

abbrev pub decreases-loop-j : goal.decreases-loop-j
decreases-loop-j l = length l.into - l.j

abbrev pub invariant-join : goal.invariant-join
invariant-join l = (l.j ≤ length l.into) × Joining l.out l.into l.code l.entry-index l.j × (l.found ≡ false)
