use Rattle.std.proofs.Common.{◌∙◌, sym}
use Rattle.wit_maps.proofs.TextTables.{length-text_entries}
use Rattle.wit_maps.proofs.text_table.TextTable.len.Goals as goal

pub returns : goal.returns
returns g c = rw (← c.self.view_is) (c.len.ensures ∙ sym (length-text_entries _))
