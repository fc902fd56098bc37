use Rattle.wit_functions.proofs.Values.{value_there}
use Rattle.wit_functions.proofs.function_map.TextTableFunctionMap.value_at.Goals as goal

pub returns : goal.returns
returns g c = λ e at. value_there (λ p. (p.0.now, p.1.now)) c.get_index.result c.unwrap.result _ e c.get_index.ensures c.unwrap.ensures at
