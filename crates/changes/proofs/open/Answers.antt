-- `changes::open` meets its contract: a refusal leaves memory alone, and else edge and index memory are zeroed.
use mathlib.Core.Path.{◌≡◌, refl, sym}
use borrow.Author.Tests.{le-leb, lt-leb}
use Rattle.std.proofs.Common.{rules, Err}
use Rattle.model.specs.declared.Refusal.TheVariants.{EdgeMemory}
use Rattle.model.proofs.Replies.{number_some}
use Rattle.calls.specs.Change.{open_refusal}
use Rattle.calls.proofs.Checks.{none, pass, stop, first_is, header_stop, header_pass}
use Rattle.changes.proofs.Calls.{open_stops, open_leaves}
use Rattle.changes.proofs.open.Goals as goal

pub returns-in_err-check_size : goal.returns-in_err-check_size
unfolding open_refusal
returns-in_err-check_size c =
    let r = c.in_err-check_size.field-0.0 in
    let k : c.from_residual.result ≡ Err r = search rules in
    rw k (open_stops _ _ r (first_is (header_stop _ _ (sym c.in_err-check_size.ensures) (number_some r))))

pub returns-then-edges-gt-MOST_EDGES : goal.returns-then-edges-gt-MOST_EDGES
unfolding open_refusal
returns-then-edges-gt-MOST_EDGES c =
    open_stops _ _ EdgeMemory (first_is (header_pass _ _ (sym c.in_ok-check_size.ensures) (stop (lt-leb _ _ c.if-edges-gt-MOST_EDGES.true))))

pub returns : goal.returns
unfolding open_refusal
returns c =
    open_leaves _ _ (first_is (header_pass _ _ (sym c.in_ok-check_size.ensures) (pass (le-leb _ _ c.if-edges-gt-MOST_EDGES.false) none)))
    c.clear.ensures.edges c.clear.ensures.index refl refl
