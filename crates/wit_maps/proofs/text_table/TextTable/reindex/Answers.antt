use Rattle.std.proofs.Common.{◌∙◌, ap}
use Rattle.wit_maps.specs.TextEntries.{text_entries}
use Rattle.wit_maps.proofs.text_table.TextTable.reindex.Goals as goal

pub returns : goal.returns
returns g c = ap text_entries c.reindex.ensures ∙ c.self.view_is
