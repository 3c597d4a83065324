-- `suffixes::level` meets its contract: the word's rows are filled, the entries with one label before it staged, and its rows emptied.
use native.Mathlib.Omega.{arith}
use Rattle.parent_rows.specs.Steps.{FillsParent}
use Rattle.suffixes.proofs.Levelling.{leaf_stageable, parent_clearable, level_stages}
use Rattle.suffixes.proofs.level.Goals as goal
use Rattle.suffixes.proofs.level.Goals.{After-fill_parent}

-- the word's rows, which its labels as they are lent have filled
filled : (c : After-fill_parent) → FillsParent c.args.search.edges.now c.args.word.now c.args.w.now c.fill_parent.new.w
filled c = rw c.as_slice-labels.ensures at c.fill_parent.ensures

pub leaves-n-requires : goal.leaves-n-requires
leaves-n-requires c =
    let pre = c.requires in
    leaf_stageable pre (filled (goal.at.leaves-n-requires c).After-fill_parent) (omega (arith, pre.listable, c.fill_parent.auto.live))

pub clear_parent-requires : goal.clear_parent-requires
clear_parent-requires c =
    rw c.as_slice-labels.ensures (parent_clearable c.requires (filled (goal.at.clear_parent-requires c).After-fill_parent) c.leaves-n.ensures)

pub returns : goal.returns
returns c = level_stages c.requires (filled (goal.at.returns c).After-fill_parent) c.leaves-n.ensures c.clear_parent.ensures
