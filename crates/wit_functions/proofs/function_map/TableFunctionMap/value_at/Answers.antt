use Rattle.std.specs.Map.Iter.{deref_pair}
use Rattle.wit_functions.proofs.Values.{value_there}
use Rattle.wit_functions.proofs.function_map.TableFunctionMap.value_at.Goals as goal

pub returns : goal.returns
returns g c = λ e at. value_there deref_pair c.get_index.result c.unwrap.result _ e c.get_index.ensures c.unwrap.ensures at
