use Rattle.std.proofs.Common.{sym, ◌∙◌}
use Rattle.wit_graph.proofs.Tables.{place_by_key}
use Rattle.wit_order.proofs.name_table.TableRefStrVecIdNameTable.place.Goals as goal

pub returns : goal.returns
returns c = c.get_index_of.ensures ∙ sym (place_by_key c.args.self.now c.args.name.now)
