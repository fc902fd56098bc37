-- Functions.
use Rattle.std.specs.Prelude.{ℕ, List, [], ◌∷◌, ◌++◌, Option, Some, None, codes, map}
use Rattle.json.specs.Json.{Json, string}
use Rattle.wit_types.specs.declared.types.«Type».{«Type» as Ty}
use Rattle.wit_functions.specs.declared.function.Param.{Param}
use Rattle.wit_functions.specs.declared.function.Function.{Function}
use Rattle.wit_functions.specs.declared.function.FunctionKind.{FunctionKind}
use Rattle.wit_functions.specs.declared.function.FunctionKind.TheVariants as kind
use Rattle.wit_json.specs.declared.member_words.Word.TheVariants as w
use Rattle.wit_json.specs.Values.{at, fields, list, number_json}
use Rattle.wit_json.specs.Metadata.{metadata_members, span_json}
use Rattle.wit_json.specs.Kinds.{type_json}

abbrev pub param_members : Param → List (List ℕ × Json)
param_members p = at w.Name (string p.name) ∷ at w.Type_ (type_json p.ty) ∷ at w.Span (span_json p.span) ∷ []

abbrev pub param_json : Param → Json
param_json p = fields (param_members p)

-- a kind with the id of its resource
abbrev pub of_resource : List ℕ → ℕ → Json
of_resource word resource = fields ((word, number_json resource) ∷ [])

abbrev pub function_kind : FunctionKind → Json
function_kind kind.Freestanding = string (codes "freestanding")
function_kind kind.AsyncFreestanding = string (codes "async-freestanding")
function_kind kind.Getter = string (codes "getter")
function_kind kind.Setter = string (codes "setter")
function_kind (kind.Method r) = of_resource (codes "method") r
function_kind (kind.AsyncMethod r) = of_resource (codes "async-method") r
function_kind (kind.MethodGetter r) = of_resource (codes "method-getter") r
function_kind (kind.MethodSetter r) = of_resource (codes "method-setter") r
function_kind (kind.Static r) = of_resource (codes "static") r
function_kind (kind.AsyncStatic r) = of_resource (codes "async-static") r
function_kind (kind.StaticGetter r) = of_resource (codes "static-getter") r
function_kind (kind.StaticSetter r) = of_resource (codes "static-setter") r
function_kind (kind.Constructor r) = of_resource (codes "constructor") r

abbrev pub result_members : Option Ty → List (List ℕ × Json)
result_members None = []
result_members (Some t) = at w.Result_ (type_json t) ∷ []

abbrev pub function_prefix : Function → List (List ℕ × Json)
function_prefix f = at w.Name (string f.name) ∷ at w.Kind (function_kind f.kind) ∷ at w.Params (list (map param_json f.params)) ∷ []

abbrev pub function_members : Function → List (List ℕ × Json)
function_members f = function_prefix f ++ (result_members f.result ++ (metadata_members f.docs.contents f.stability f.external_id ++ at w.Span (span_json f.span) ∷ []))

abbrev pub function_json : Function → Json
function_json f = fields (function_members f)
