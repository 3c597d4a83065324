-- `pattern_entries::stage` meets its contract: filled, staged, emptied.
use Rattle.pattern_entries.proofs.Patterning.{fillable, ready, clearable, pattern_stages}
use Rattle.pattern_entries.proofs.stage.Goals as goal

pub fill-requires : goal.fill-requires
fill-requires c = fillable c.requires

pub stage_filled-staged-requires : goal.stage_filled-staged-requires
stage_filled-staged-requires c =
    ready c.requires c.fill.ensures

pub clear_sources-requires : goal.clear_sources-requires
clear_sources-requires c =
    clearable c.requires c.fill.ensures c.stage_filled-staged.ensures

pub returns : goal.returns
returns c =
    pattern_stages c.requires c.fill.ensures c.stage_filled-staged.ensures c.clear_sources.ensures
