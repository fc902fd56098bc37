use Rattle.std.proofs.Common.{◌∙◌}
use Rattle.wit_maps.proofs.TextTables.{lookup-text_entries}
use Rattle.wit_maps.proofs.text_table.TextTable.get.Goals as goal

pub returns : goal.returns
returns g c = rw (← c.self.view_is) (c.get_by.ensures ∙ lookup-text_entries c.args.key.now c.self.inside.table)
