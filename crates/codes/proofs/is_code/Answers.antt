-- `codes::is_code` meets its contract: each return is the outcome of the tests before it.
use mathlib.Core.Path.{◌≡◌, sym, ap, ◌∙◌}
use mathlib.Core.Bool.{true, false, not, not-not}
use Rattle.model.specs.Limits.{code_digits}
use Rattle.model.specs.Computed.Patterns.{keyed?}
use Rattle.model.specs.Computed.Query.{digits}
use Rattle.codes.proofs.Codes.{code_is, spelled_by}
use Rattle.codes.proofs.is_code.Goals as goal
use Rattle.codes.proofs.is_code.Goals.{Then-are_labels}

keyed : (c : Then-are_labels) → keyed? c.args.longest (digits code_digits c.args.code) ≡ true
keyed c = sym c.are_labels.ensures ∙ c.if-are_labels.true

pub repeats-requires : goal.repeats-requires
repeats-requires c = spelled_by _ c.requires (keyed (goal.at.repeats-requires c).Then-are_labels)

pub returns-then-are_labels : goal.returns-then-are_labels
returns-then-are_labels c = ap not c.repeats.ensures ∙ not-not _ ∙ sym (code_is _ _ true (keyed (goal.at.returns-then-are_labels c).Then-are_labels))

pub returns-else-are_labels : goal.returns-else-are_labels
returns-else-are_labels c = c.if-are_labels.false ∙ sym (code_is _ _ false (sym c.are_labels.ensures ∙ c.if-are_labels.false))
