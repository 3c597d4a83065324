-- `parent_rows::prepend` meets its contract: the edges gathered lead where all of `first` do.
use Rattle.parent_rows.proofs.Turning.{prepend_fillable, prepend_clearable, prepend_all}
use Rattle.parent_rows.proofs.prepend.Goals as goal

pub fill-requires : goal.fill-requires
fill-requires c =
    prepend_fillable c.requires c.gather-n.ensures

pub clear_sources-requires : goal.clear_sources-requires
clear_sources-requires c =
    prepend_clearable c.requires c.gather-n.ensures c.fill.ensures

pub returns : goal.returns
returns c =
    prepend_all c.requires c.gather-n.ensures c.fill.ensures c.clear_sources.ensures
