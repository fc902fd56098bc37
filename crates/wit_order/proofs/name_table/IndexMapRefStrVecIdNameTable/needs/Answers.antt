use Rattle.std.proofs.Common.{sym}
use Rattle.wit_graph.proofs.Tables.{row_at_place}
use Rattle.wit_order.proofs.name_table.IndexMapRefStrVecIdNameTable.needs.Goals as goal

pub returns : goal.returns
returns c = (_, row_at_place c.args.self.now.entries c.args.place c.get_index.result c.unwrap.result c.get_index.ensures.entry c.unwrap.ensures, sym c.as_slice.ensures.value)
