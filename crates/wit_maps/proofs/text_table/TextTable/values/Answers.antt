use Rattle.std.proofs.Common.{◌∙◌, sym}
use Rattle.wit_maps.proofs.TextTables.{values_of-text_entries}
use Rattle.wit_maps.proofs.text_table.TextTable.values.Goals as goal

pub returns : goal.returns
returns g c = rw (← c.table.ensures) (c.values.ensures ∙ sym (values_of-text_entries c.table.result.now))
