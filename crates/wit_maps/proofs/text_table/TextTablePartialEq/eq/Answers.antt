use Rattle.std.proofs.Common.{◌∙◌}
use Rattle.wit_maps.proofs.TextTables.{entries_eq-text_entries}
use Rattle.wit_maps.proofs.text_table.TextTablePartialEq.eq.Goals as goal

pub returns : goal.returns
returns g c = rw (← c.self.view_is, ← c.other.view_is) (c.eq.ensures ∙ entries_eq-text_entries g.V.PartialEq.eq c.self.inside.table c.other.inside.table)
