-- Functions in a listing: what they take and give.
use Rattle.std.specs.Prelude.{ℕ, ◌==◌, List, [], ◌∷◌, ◌++◌, Option, Some, None, codes, if◌then◌else◌}
use Rattle.wit_types.specs.declared.types.«Type».{«Type» as Ty}
use Rattle.wit_functions.specs.declared.function.Param.{Param}
use Rattle.wit_functions.specs.declared.function.Function.{Function}
use Rattle.wit_functions.specs.FunctionKinds.{is_async}
use Rattle.wit_listing.specs.ListingTexts.{type_text}
use Rattle.wit_listing.specs.Lists.{numbered}

-- a parameter, with a comma before it unless it is the first
abbrev pub parameter_text : ℕ → Param → List ℕ
parameter_text place p = (if place == 0 then [] else codes ", ") ++ (p.name ++ (58 ∷ type_text p.ty))

abbrev pub result_text : Option Ty → List ℕ
result_text None = []
result_text (Some t) = codes " -> " ++ type_text t

abbrev pub signature_text : Function → List ℕ
signature_text f = (if is_async f.kind then codes "async " else []) ++ (codes "func(" ++ (numbered parameter_text 0 f.params ++ (41 ∷ result_text f.result)))
