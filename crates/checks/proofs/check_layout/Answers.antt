-- `checks::check_layout` meets its contract: each return is the first check that does not pass, or all have passed.
use mathlib.Core.Path.{◌≡◌, sym}
use mathlib.Core.List.{List}
use Prim.Native.Nat.{ℕ}
use Rattle.std.proofs.Common.{rules, Err, Option, Some, None}
use Rattle.std.specs.Option.{ok_or}
use Rattle.model.specs.declared.Refusal.TheVariants.{EdgeMemory}
use Rattle.model.proofs.Replies.{number_some}
use Rattle.edges.specs.Memory.{scan_of}
use Rattle.edges.proofs.Memory.{scans, scans_none}
use Rattle.calls.specs.Call.{Size}
use Rattle.calls.specs.Checks.{header_refusal}
use Rattle.calls.proofs.Checks.{none, pass, stop, first_is, header_stop, header_pass}
use Rattle.checks.specs.LayoutChecks.{layout_refusal, Layouts}
use Rattle.checks.proofs.check_layout.Goals as goal

-- the record has passed
layouts : (size : Size) (edges : List ℕ) (r : Option ℕ) → header_refusal size.vertices size.longest ≡ 0 → r ≡ scan_of size.vertices edges
    → Layouts size edges (ok_or r EdgeMemory)
unfolding layout_refusal
layouts size edges (Some n) h e =
    record { is = first_is (header_pass _ _ h (pass (scans _ _ (sym e)).memory none)); scanned = sym e }
layouts size edges None h e = first_is (header_pass _ _ h (stop (scans_none _ _ (sym e))))

pub returns-in_err-check_size : goal.returns-in_err-check_size
unfolding layout_refusal
returns-in_err-check_size c =
    let k : c.from_residual.result ≡ Err c.in_err-check_size.field-0.0 = search rules in
    rw k (first_is (header_stop _ _ (sym c.in_err-check_size.ensures) (number_some c.in_err-check_size.field-0.0)))

pub returns : goal.returns
returns c = rw c.ok_or.ensures.value (layouts _ _ _ (sym c.in_ok-check_size.ensures) c.scan.ensures)
