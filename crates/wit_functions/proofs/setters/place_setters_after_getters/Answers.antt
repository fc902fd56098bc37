use Rattle.wit_functions.specs.SettersPlaced.{placed}
use Rattle.wit_functions.proofs.setters.place_setters_after_getters.Goals as goal

pub returns-clause-placed : goal.returns-clause-placed
returns-clause-placed g c = λ function_at h names. c.reorder.ensures (placed function_at (g.M.FunctionMap.entries c.args.map.now)) (c.in_ok-order.ensures function_at h names)
