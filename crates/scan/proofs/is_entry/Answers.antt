-- `scan::is_entry` meets its contract: each return is the outcome of the tests before it.
use mathlib.Core.Path.{◌≡◌, sym, ap, ◌∙◌}
use mathlib.Core.Bool.{Bool}
use native.Mathlib.Omega.{arith}
use Rattle.model.specs.Computed.Query.{code_of, code?, entry?}
use Rattle.model.specs.declared.Entry.{Entry}
use Rattle.scan.proofs.Fields.{seen_more, no_entry, code_entry}
use Rattle.scan.proofs.is_entry.Goals as goal
use Rattle.scan.proofs.is_entry.Goals.{After-is_code}

-- the other fields are right
coded : (c : After-is_code) {b : Bool} → code? c.args.size.longest (code_of c.args.x) ≡ b
    → entry? c.args.size.vertices c.args.size.longest c.args.x ≡ b
coded c e =
    let f = c.from-entry.ensures in
    code_entry _ _ _ (omega (arith, ap (λ (entry : Entry). entry.side) f)) (rw f at c.if-size-entry.false) (rw f at c.if-size-entry-2.false) e

pub returns-then-size-entry : goal.returns-then-size-entry
returns-then-size-entry c =
    record { is = sym (no_entry _ _ _ (λ v. omega (arith, v.owner, rw c.from-entry.ensures at c.if-size-entry.true))); seen = c.requires }

pub returns-then-size-entry-2 : goal.returns-then-size-entry-2
returns-then-size-entry-2 c =
    record { is = sym (no_entry _ _ _ (λ v. omega (arith, v.hub, rw c.from-entry.ensures at c.if-size-entry-2.true))); seen = c.requires }

pub returns-then-is_code : goal.returns-then-is_code
returns-then-is_code c =
    let q = sym (rw c.from-entry.ensures at c.is_code.ensures) ∙ c.if-is_code.true in
    record {
      is = sym (coded (goal.at.returns-then-is_code c).After-is_code q);
      seen = rw (c.slot-at.ensures, c.from-entry.ensures) (seen_more (code_of c.args.x) c.requires q);
    }

pub returns : goal.returns
returns c =
    let q = sym (rw c.from-entry.ensures at c.is_code.ensures) ∙ c.if-is_code.false in
    record { is = sym (coded (goal.at.returns c).After-is_code q); seen = c.requires }
