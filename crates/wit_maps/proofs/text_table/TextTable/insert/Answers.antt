use Rattle.std.proofs.Common.{◌∙◌, ap, string_bytes}
use Rattle.std.proofs.lemmas.Result.{on_ok_weaker, on_err_weaker, IfOk-weaker}
use Rattle.wit_maps.specs.TextEntries.{text_entries}
use Rattle.wit_maps.proofs.TextTables.{lookup-text_entries, text_entries-insert_entry}
use Rattle.wit_maps.proofs.text_table.TextTable.insert.Goals as goal

pub returns-clause-ok : goal.returns-clause-ok
returns-clause-ok g c = rw (← c.self.view_is) (on_ok_weaker c.insert.result (λ e. ap text_entries e ∙ text_entries-insert_entry c.self.inside.table c.args.key c.args.value) c.insert.ensures.ok)

pub returns-clause-was : goal.returns-clause-was
returns-clause-was g c = rw (← c.self.view_is) (IfOk-weaker c.insert.result _ _ (λ was e. e ∙ lookup-text_entries (string_bytes c.args.key) c.self.inside.table) c.insert.ensures.was)

pub returns-clause-err : goal.returns-clause-err
returns-clause-err g c = rw (← c.self.view_is) (on_err_weaker c.insert.result (λ e. ap text_entries e) c.insert.ensures.err)
