use Rattle.wit_maps.proofs.TextTables.{AllZip-text_entries}
use Rattle.wit_maps.proofs.text_table.TextTableClone.clone.Goals as goal

pub returns : goal.returns
returns g c = rw (← c.self.view_is) (record { cases = AllZip-text_entries g.V.Clone.is_clone c.self.inside.table c.in_ok-clone.field-0 c.in_ok-clone.ensures.cases })
