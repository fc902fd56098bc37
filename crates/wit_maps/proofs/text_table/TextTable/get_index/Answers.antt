use Rattle.std.proofs.Common.{ap, Some, refl}
use Rattle.wit_maps.proofs.TextTables.{slice_get-text_entries}
use Rattle.wit_maps.proofs.text_table.TextTable.get_index.Goals as goal

pub returns-in-Some : goal.returns-in-Some
returns-in-Some g c = rw (← c.self.view_is, slice_get-text_entries c.self.inside.table c.args.place, ← c.get_index.ensures, c.in-Some.is) (ap (λ k. Some (k, c.in-Some.value.now)) c.as_str.ensures.value)

pub returns-in-None : goal.returns-in-None
returns-in-None g c = rw (← c.self.view_is, slice_get-text_entries c.self.inside.table c.args.place, ← c.get_index.ensures, c.in-None.is) refl
