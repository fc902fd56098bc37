use Rattle.wit_graph.proofs.Tables.{key_at}
use Rattle.wit_order.proofs.name_table.IndexMapRefStrVecIdNameTable.key.Goals as goal

pub returns : goal.returns
returns c = key_at c.args.self.now.entries c.args.place c.get_index.result c.unwrap.result c.get_index.ensures.entry c.unwrap.ensures
