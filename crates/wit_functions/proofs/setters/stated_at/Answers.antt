use Rattle.std.proofs.Common.{◌∙◌, ap}
use Rattle.wit_functions.proofs.setters.stated_at.Goals as goal

pub returns : goal.returns
returns g c = λ function_at h e at. c.maybe_function.ensures function_at h ∙ ap function_at (c.value_at.ensures e at)
