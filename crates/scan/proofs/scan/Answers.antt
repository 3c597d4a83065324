use mathlib.Core.Path.{◌≡◌, refl, sym, ◌∙◌}
use mathlib.Core.Bool.{Bool, true, false, cond}
use mathlib.Core.List.{List}
use Prim.Native.Nat.{ℕ, ◌*◌, ◌≤◌, ◌<◌}
use native.Mathlib.Omega.{arith}
use borrow.Author.Rules.{rules}
use lib.ListN.{length, get_or, drop}
use Rattle.model.specs.Limits.{hub_unit}
use Rattle.model.specs.Computed.Query.{side_of, entry?}
use Rattle.model.proofs.Checked.{checked_zeros}
use Rattle.scan.specs.Memory.{extent_of, scan_from}
use Rattle.scan.specs.Scan.{FieldEnd, Seen, Within, Skims, extent_at}
use Rattle.std.specs.Bool.{then_some}
use Rattle.std.proofs.Common.{Some, None}
use Rattle.scan.specs.declared.Exit.{Exit}
use Rattle.scan.proofs.Fields.{seen_none, hubs_below, within, entry_side}
use Rattle.scan.proofs.Scanning.{scan_start}
use Rattle.scan.proofs.scan.Goals as goal

-- how skim was left says what all slots say
skimmed : {vertices longest i prev end n : ℕ} {index seen : List ℕ} {r : Exit} → Skims index i prev end (n * hub_unit) seen r → FieldEnd vertices n
    → (i ≤ length index) × ((scan_from vertices longest prev i (drop i index) ≡ extent_of vertices longest index) × (Seen longest seen × Within vertices prev end))
    → extent_of vertices longest index ≡ extent_at vertices longest index r
skimmed s f inv = sym inv.1.0 ∙ s.same _ _ inv.1.1.0 inv.1.1.1 (hubs_below f)

pub loop-at-init : goal.loop-at-init
loop-at-init c = (omega arith, (scan_start _ _ _, (seen_none _, record { side = λ y l h. absurd (omega arith); owner = λ y l h. absurd (omega arith) })))

pub returns-in-Stray : goal.returns-in-Stray
returns-in-Stray c = sym (skimmed c.in-Stray.ensures c.field_end-n.ensures c.loop-at.invariant)

-- at the rest
some_if : (b : Bool) (n : ℕ) → then_some b n ≡ cond b (Some n) None
some_if true n = refl
some_if false n = refl

pub returns-in-Rest : goal.returns-in-Rest
returns-in-Rest c =
    c.then_some.ensures ∙ some_if _ _
    ∙ sym (skimmed c.in-Rest.ensures c.field_end-n.ensures c.loop-at.invariant
    ∙ checked_zeros Some None c.args.index.now c.in-Rest.at _ (sym c.all_zero.ensures))

-- at an entry that is to be looked at
pub overflow_add-end : goal.overflow_add-end
overflow_add-end c =
    let h : side_of (get_or c.args.index.now c.in-Untested.at 0) < 2 = entry_side c.args.size.vertices _ _ (sym c.is_entry.ensures.is ∙ c.if-not-is_entry.false) in
    search rules

pub loop-at-preserved : goal.loop-at-preserved
loop-at-preserved c =
    let e : entry? c.args.size.vertices c.args.size.longest (get_or c.args.index.now c.in-Untested.at 0) ≡ true = sym c.is_entry.ensures.is ∙ c.if-not-is_entry.false in
    let s : Skims _ _ _ _ _ _ _ = c.in-Untested.ensures in (
      omega (arith, s.slot.1),
      (
        sym (rw e at (skimmed s c.field_end-n.ensures c.loop-at.invariant)),
        (c.is_entry.ensures.seen, within c.field_end-n.ensures _ (entry_side c.args.size.vertices _ _ e)),
      ),
    )

pub returns-then-not-is_entry : goal.returns-then-not-is_entry
returns-then-not-is_entry c =
    let e : entry? c.args.size.vertices c.args.size.longest (get_or c.args.index.now c.in-Untested.at 0) ≡ false = sym c.is_entry.ensures.is ∙ c.if-not-is_entry.true in
    sym (rw e at (skimmed c.in-Untested.ensures c.field_end-n.ensures c.loop-at.invariant))
