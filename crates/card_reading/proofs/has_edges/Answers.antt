-- `card_reading::has_edges` meets its contract.
use mathlib.Core.Path.{sym, ap, ◌∙◌}
use borrow.Author.Tests.{ne_eqb}
use Rattle.model.specs.Limits.{head_bytes}
use Rattle.model.proofs.Lists.{part_all}
use Rattle.calls.specs.Card.{size_of, rising_triples?}
use Rattle.calls.proofs.Card.{card_edges_long, card_edges_body}
use Rattle.card_reading.proofs.has_edges.Goals as goal

pub returns-then-card-layout : goal.returns-then-card-layout
returns-then-card-layout c =
    let card = c.args.card.now in
    let size = rw c.requires.count at c.if-card-layout.true in
    rw c.requires.size_is at c.are_rising.ensures ∙ ap (rising_triples? (size_of card).vertices 0) (part_all card head_bytes) ∙ sym (card_edges_body card size)

pub returns-else-card-layout : goal.returns-else-card-layout
returns-else-card-layout c =
    ne_eqb _ _ c.if-card-layout.false ∙ sym (card_edges_long c.args.card.now (rw c.requires.count at c.if-card-layout.false))
