use Rattle.std.proofs.Common.{ap}
use Rattle.wit_maps.specs.TextEntries.{text_entries}
use Rattle.wit_maps.proofs.text_table.TextTable.from_index_map.Goals as goal

pub returns : goal.returns
returns g c = ap text_entries c.in_ok-table.ensures
