use Rattle.wit_syntax.proofs.Common.{cyclic_at, item_word, missing_at, rows}
use Rattle.wit_files.proofs.Refusals.{missing_edge, cyclic_edge}
use Rattle.wit_files.proofs.order_refusal.refuse_item_order.Goals as goal

pub needed-requires : goal.needed-requires
needed-requires c = (let f = rw c.in-Missing.is at c.requires in (f.id, f.first.is))

pub needed-requires-in-Cyclic : goal.needed-requires-in-Cyclic
needed-requires-in-Cyclic c = (let f = rw c.in-Cyclic.is at c.requires in (f.id, f.first.is))

pub returns-in-Missing : goal.returns-in-Missing
returns-in-Missing c = missing_edge (missing_at 7 item_word) (cyclic_at 8 item_word) (rows c.args.table.now) c.in-Missing.place c.in-Missing.index c.needed.result c.refuse_missing.result (rw c.in-Missing.is at c.requires) c.needed.ensures c.refuse_missing.ensures

pub returns-in-Cyclic : goal.returns-in-Cyclic
returns-in-Cyclic c = cyclic_edge (missing_at 7 item_word) (cyclic_at 8 item_word) (rows c.args.table.now) c.in-Cyclic.place c.in-Cyclic.index c.needed-in-Cyclic.result c.refuse_cycle.result (rw c.in-Cyclic.is at c.requires) c.needed-in-Cyclic.ensures c.refuse_cycle.ensures
