use Rattle.std.proofs.Common.{◌∙◌, sym}
use Rattle.patterns.proofs.Lengths.{from_here, from_next, from_last}
use Rattle.patterns.proofs.+length_from.Goals as goal

pub returns-then-pattern-d : goal.returns-then-pattern-d
returns-then-pattern-d t c = from_last _ _ c.requires c.if-pattern-d.true

pub returns-then-repeats : goal.returns-then-repeats
returns-then-repeats t c = from_here _ _ c.requires (sym c.repeats.ensures ∙ c.if-repeats.true)

pub returns : goal.returns
returns t c = c.length_from.ensures ∙ from_next _ _ c.requires (sym c.repeats.ensures ∙ c.if-repeats.false)
