use Rattle.std.proofs.Common.{ap}
use Rattle.std.proofs.lemmas.Result.{IfOk-weaker}
use Rattle.wit_maps.specs.TextEntries.{text_entries}
use Rattle.wit_maps.proofs.text_table.TextTable.into_index_map.Goals as goal

pub returns : goal.returns
returns g c = rw (← c.self.view_is) (IfOk-weaker c.into_index_map.result _ _ (λ map e. ap text_entries e) c.into_index_map.ensures)
