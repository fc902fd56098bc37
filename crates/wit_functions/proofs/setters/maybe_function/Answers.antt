use Rattle.std.proofs.Common.{refl}
use Rattle.wit_functions.proofs.setters.maybe_function.Goals as goal

pub returns : goal.returns
returns g c = λ function_at h. h c.args.value.now _ (record { shown = c.args.value; shows = refl; says = record { met = c.func.ensures } })
