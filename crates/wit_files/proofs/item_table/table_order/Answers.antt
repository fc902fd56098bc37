use Rattle.wit_files.proofs.item_table.table_order.Goals as goal

pub returns-in-Ok-clause-first : goal.returns-in-Ok-clause-first
returns-in-Ok-clause-first c = (c.in-Ok.places.items, c.in-Ok.ensures.ok)
