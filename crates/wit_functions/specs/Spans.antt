-- The spans that functions hold, and functions with each span shifted and nothing else changed.
use Rattle.std.specs.Prelude.{ℕ, List, [], ◌∷◌, map}
use Rattle.std.specs.List.{flat_map}
use Rattle.wit_values.specs.declared.span.Span.{Span}
use Rattle.wit_types.specs.Spans.{shifted}
use Rattle.wit_functions.specs.declared.function.Function.{Function}
use Rattle.wit_functions.specs.declared.function.Param.{Param}

abbrev pub param_spans : Param → List Span
param_spans p = p.span ∷ []

abbrev pub shifted_param : ℕ → Param → Param
shifted_param offset p = record p { span = shifted offset p.span }

-- its own, and those of its parameters
abbrev pub function_spans : Function → List Span
function_spans f = f.span ∷ flat_map param_spans f.params

abbrev pub shifted_function : ℕ → Function → Function
shifted_function offset f = record f { span = shifted offset f.span; params = map (shifted_param offset) f.params }
