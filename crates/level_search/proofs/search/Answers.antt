-- `level_search::search` meets its contract: a refusal leaves work memory alone, and a search is over the standing edges, by the pattern as keyed.
use mathlib.Core.Path.{◌≡◌, sym}
use lib.Seq.{length-take-le}
use Rattle.level_search.proofs.Call.{part_edges, searchable, meets, search_refused}
use Rattle.std.proofs.Common.{rules, Err}
use Rattle.level_search.proofs.search.Goals as goal

pub returns-in_err-n : goal.returns-in_err-n
returns-in_err-n c =
    let refused : c.from_residual.result ≡ Err c.in_err-n.field-0.0 = search rules in
    rw refused (search_refused _ _ _ _ _ _ _ c.in_err-n.ensures)

pub slice_bounds-standing-end : goal.slice_bounds-standing-end
slice_bounds-standing-end c = sym (length-take-le _ c.args.edges.now (part_edges c.in_ok-n.ensures))

pub fill_slots-requires : goal.fill_slots-requires
fill_slots-requires c = (searchable c.in_ok-n.ensures).vertices_small

pub new-search-requires : goal.new-search-requires
new-search-requires c = let p = searchable c.in_ok-n.ensures in (p.rises, (c.fill_slots.ensures, p.short))

pub run-requires : goal.run-requires
run-requires c =
    let e = c.new-search.ensures in
    rw (e.vertices, e.edges, e.pattern, e.start, e.destination) (searchable c.in_ok-n.ensures, c.in_ok-n.ensures.room)

pub returns : goal.returns
returns c =
    let e = c.new-search.ensures in
    meets c.in_ok-n.ensures (rw (e.vertices, e.edges, e.pattern, e.start, e.destination) at c.run.ensures)
