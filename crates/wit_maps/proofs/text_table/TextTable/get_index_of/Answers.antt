use Rattle.std.proofs.Common.{◌∙◌}
use Rattle.wit_maps.proofs.TextTables.{position-text_entries}
use Rattle.wit_maps.proofs.text_table.TextTable.get_index_of.Goals as goal

pub returns : goal.returns
returns g c = rw (← c.self.view_is) (c.get_index_of.ensures ∙ position-text_entries c.args.key.now c.self.inside.table)
