-- `suffixes::leaf` meets its contract: the row is made; nothing is staged if no walk spells the pattern or it is no minimum repeat, else its
-- entries.
use mathlib.Core.Path.{◌≡◌, sym, ap, ◌∙◌}
use mathlib.Core.List.{◌∷◌}
use Prim.Native.Nat.{suc, ◌+◌}
use native.Mathlib.Omega.{arith}
use lib.ListN.{take}
use Rattle.model.specs.Limits.{most_longest}
use Rattle.model.specs.Patterns.{Keyed, code as code_of}
use Rattle.model.specs.Computed.Patterns.{own?}
use Rattle.model.proofs.Patterns.{keyed_up}
use Rattle.edges.specs.Grouped.{section}
use Rattle.rows.specs.Rows.{Becomes}
use Rattle.steps.specs.Filling.{Starting, Gathers}
use Rattle.suffixes.specs.Suffixes.{base_of}
use Rattle.suffixes.proofs.Leafing.{of_label, outgoing, keyed, code_fits, pattern_stageable, leaf_empty, leaf_folds, leaf_stages}
use Rattle.suffixes.proofs.leaf.Goals as goal
use Rattle.suffixes.proofs.leaf.Goals.{After-as_slice-pattern, After-code-number, After-gather-n, After-sources}

-- the labels of the pattern
word : (c : After-as_slice-pattern) → c.as_slice-pattern.result.now ≡ suc c.args.c ∷ c.args.word.now
word c = c.as_slice-pattern.ensures ∙ c.with-next.ensures

pattern : (c : After-as_slice-pattern) → Keyed most_longest c.as_slice-pattern.result.now
pattern c = let pre = c.requires in rw (word c) (keyed_up pre.0.chosen.most (keyed pre.0 pre.1))

-- those gathered from the edges of the label
lists : (c : After-gather-n)
    → let a = c.args in
    Gathers (section a.search.edges.now a.search.slots.now a.c) a.w.now a.starts c.gather-n.new.live c.gather-n.result
lists c =
    let pre = c.requires in
    rw (of_label pre.0 pre.1 c.labelled-edges.ensures (omega arith)) at c.gather-n.ensures

pub sources-requires : goal.sources-requires
sources-requires c =
    let pre = c.requires in (
      outgoing pre.0 pre.1 (lists (goal.at.sources-requires c).After-gather-n),
      record { row = omega (arith, c.child_row-row.ensures, pre.1, pre.0.chosen.more, pre.0.chosen.most); long = omega (arith, pre.0.taken) },
    )

-- the label's row is where they start
row : (c : After-sources)
    → let a = c.args in
    Becomes a.w.now c.sources.new.w (base_of a.word.now + a.c) (Starting (take c.gather-n.result c.gather-n.new.live))
row c = rw c.child_row-row.ensures at c.sources.ensures

pub returns-then-n-eq0 : goal.returns-then-n-eq0
returns-then-n-eq0 c =
    let pre = c.requires in
    let at = goal.at.returns-then-n-eq0 c in
    leaf_empty pre.0 pre.1 (lists at.After-gather-n) (row at.After-sources) c.if-n-eq0.true

pub is_own-requires : goal.is_own-requires
is_own-requires c = pattern (goal.at.is_own-requires c).After-as_slice-pattern

pub code-number-requires : goal.code-number-requires
code-number-requires c = pattern (goal.at.code-number-requires c).After-as_slice-pattern

-- the code that is staged is that of the label and the word
number : (c : After-code-number) → c.code-number.result ≡ code_of (suc c.args.c ∷ c.args.word.now)
number c = c.code-number.ensures ∙ ap code_of (c.as_slice-pattern.ensures ∙ c.with-next.ensures)

pub invariant_of-code : goal.invariant_of-code
invariant_of-code c = record { fits = code_fits c.requires.0 c.requires.1 (number (goal.at.invariant_of-code c).After-code-number) }

pub stage-requires : goal.stage-requires
stage-requires c =
    let pre = c.requires in
    let at = goal.at.stage-requires c in
    rw c.child_row-row.ensures (pattern_stageable pre.0 pre.1 (lists at.After-gather-n) (row at.After-sources))

pub returns-then-is_own : goal.returns-then-is_own
returns-then-is_own c =
    let pre = c.requires in
    let at = goal.at.returns-then-is_own c in
    let is = ap own? (sym (word at.After-as_slice-pattern)) ∙ (sym c.is_own.ensures ∙ c.if-is_own.true) in
    leaf_stages pre.0 pre.1 (lists at.After-gather-n) (row at.After-sources) (number at.After-code-number) is c.stage.ensures

pub returns : goal.returns
returns c =
    let pre = c.requires in
    let at = goal.at.returns c in
    leaf_folds pre.0 pre.1 (lists at.After-gather-n) (row at.After-sources)
    (ap own? (sym (word at.After-as_slice-pattern)) ∙ (sym c.is_own.ensures ∙ c.if-is_own.false))
