-- `card_reading::check` meets its contract: each return is the first check that does not pass, or all have passed.
use mathlib.Core.Path.{◌≡◌, sym, ◌∙◌}
use mathlib.Core.Bool.{true}
use borrow.Author.Tests.{eq-eqb, ne_eqb}
use Rattle.calls.specs.Card.{version?, size_of}
use Rattle.calls.specs.Checks.{longest?}
use Rattle.calls.proofs.Checks.{none, pass, stop}
use Rattle.calls.proofs.Card.{card_is}
use Rattle.card_reading.proofs.check.Goals as goal
use Rattle.card_reading.proofs.check.Goals.{After-layout-layout, After-is_longest}

-- the checks 14 and 15 have passed, and then 2
versioned : (c : After-layout-layout) → version? c.args.card.now ≡ true
versioned c = eq-eqb _ 1 (sym c.word.ensures ∙ c.if-word-ne-VERSION.false)

fits : (c : After-is_longest) → c.is_longest.result ≡ longest? (size_of c.args.card.now).longest
fits c = rw c.layout-layout.ensures.size_is at c.is_longest.ensures

pub returns-then-not-is_marked : goal.returns-then-not-is_marked
returns-then-not-is_marked c = card_is _ (stop (sym c.is_marked.ensures ∙ c.if-not-is_marked.true))

pub returns-then-word-ne-VERSION : goal.returns-then-word-ne-VERSION
returns-then-word-ne-VERSION c =
    card_is _ (pass (sym c.is_marked.ensures ∙ c.if-not-is_marked.false) (stop (ne_eqb _ 1 (λ e. c.if-word-ne-VERSION.true (c.word.ensures ∙ e)))))

pub returns-then-not-is_longest : goal.returns-then-not-is_longest
returns-then-not-is_longest c =
    let g = goal.at.returns-then-not-is_longest c in
    card_is _
    (pass (sym c.is_marked.ensures ∙ c.if-not-is_marked.false)
    (pass (versioned g.After-layout-layout) (stop (sym (fits g.After-is_longest) ∙ c.if-not-is_longest.true))))

pub returns-then-not-has_edges : goal.returns-then-not-has_edges
returns-then-not-has_edges c =
    let g = goal.at.returns-then-not-has_edges c in
    card_is _
    (pass (sym c.is_marked.ensures ∙ c.if-not-is_marked.false)
    (pass (versioned g.After-layout-layout)
    (pass (sym (fits g.After-is_longest) ∙ c.if-not-is_longest.false) (stop (sym c.has_edges.ensures ∙ c.if-not-has_edges.true)))))

pub returns : goal.returns
returns c =
    let g = goal.at.returns c in
    record {
      is =
          card_is _
          (pass (sym c.is_marked.ensures ∙ c.if-not-is_marked.false)
          (pass (versioned g.After-layout-layout)
          (pass (sym (fits g.After-is_longest) ∙ c.if-not-is_longest.false) (pass (sym c.has_edges.ensures ∙ c.if-not-has_edges.false) none))));
      size_is = c.layout-layout.ensures.size_is;
      count = c.layout-layout.ensures.count;
    }
