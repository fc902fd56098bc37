use Rattle.std.proofs.Common.{sym, inr, refl}
use Rattle.std.proofs.lemmas.Option.{slice_get_read}
use Rattle.wit_graph.proofs.Tables.{miss_first, row_more}
use Rattle.wit_graph.specs.Table.{rows}
use Rattle.wit_order.proofs.name_places.add_row.Goals as goal

pub returns-in-None-clause-err : goal.returns-in-None-clause-err
returns-in-None-clause-err g c =
    let at = slice_get_read c.args.ids.now _ c.loop-index.index c.index-ids-index.result refl c.loop-index-test.true c.index-ids-index.is in
    let added = c.loop-index.invariant in
    inr (miss_first (rows (g.T.NameTable.entries c.args.deps.now)) c.args.ids.now added.0 c.args.place c.loop-index.index _ added.2 at (sym c.in-None.ensures))

pub loop-index-preserved : goal.loop-index-preserved
loop-index-preserved g c =
    let at = slice_get_read c.args.ids.now _ c.loop-index.index c.index-ids-index.result refl c.loop-index-test.true c.index-ids-index.is in
    row_more (rows (g.T.NameTable.entries c.args.deps.now)) c.args.ids.now c.args.targets.now.items c.loop-index.targets.items _ c.loop-index.index _ c.in-Some.target c.loop-index.invariant at (sym c.in-Some.ensures) c.in_ok-push-in-Some.ensures.items
