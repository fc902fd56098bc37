use Rattle.std.proofs.Common.{◌∙◌}
use Rattle.wit_functions.proofs.function_map.TableFunctionMap.reorder.Goals as goal

pub returns : goal.returns
returns g c = λ now is. c.reindex.ensures ∙ c.put_in_order.ensures now is
