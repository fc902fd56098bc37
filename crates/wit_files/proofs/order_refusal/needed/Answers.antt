use Rattle.std.proofs.Common.{◌<◌, length, refl, arith}
use Rattle.wit_syntax.proofs.Common.{row_at_place, rows, slice_get_read}
use Rattle.wit_graph.proofs.Faults.{edge_index}
use Rattle.wit_files.proofs.order_refusal.needed.Goals as goal

pub index-requires : goal.index-requires
index-requires c =
    let at = row_at_place c.args.table.now c.args.place c.get_index.result c.unwrap.result c.get_index.ensures c.unwrap.ensures in
    let inside : c.args.index < length c.unwrap.result.1.now.items = edge_index (rows c.args.table.now) c.args.place c.args.index c.requires.0 _ c.requires.1 at in
    omega (arith, inside, c.unwrap.result.1.now.ok)

pub returns : goal.returns
returns c =
    let at = row_at_place c.args.table.now c.args.place c.get_index.result c.unwrap.result c.get_index.ensures c.unwrap.ensures in
    let inside : c.args.index < length c.unwrap.result.1.now.items = edge_index (rows c.args.table.now) c.args.place c.args.index c.requires.0 _ c.requires.1 at in
    (_, at, slice_get_read c.unwrap.result.1.now.items _ c.args.index c.index.result.now refl inside c.index.ensures)
