use Rattle.std.proofs.Common.{◌∙◌, ap}
use Rattle.std.proofs.lemmas.Result.{on_ok_weaker}
use Rattle.wit_maps.specs.TextEntries.{text_entries}
use Rattle.wit_maps.proofs.TextTables.{text_entries-insert_entry}
use Rattle.wit_maps.proofs.text_table.TextTable.put.Goals as goal

pub returns-clause-ok : goal.returns-clause-ok
returns-clause-ok g c = rw (← c.self.view_is) (on_ok_weaker c.put.result (λ e. ap text_entries e ∙ text_entries-insert_entry c.self.inside.table c.args.key c.args.value) c.put.ensures.ok)
