-- The first fault of a function of a scope: E22 and E26 to E42.
use Rattle.std.specs.Prelude.{ℕ, if◌then◌else◌, Bool, false, List, [], ◌++◌, map, Option, None, Some, is_none}
use Rattle.std.specs.List.{list_any}
use Rattle.std.specs.Option.{option_or}
use Rattle.std.specs.Str.{bytes_eq}
use Rattle.wit_type_tree.specs.declared.leaves.Id.{Id}
use Rattle.wit_type_tree.specs.declared.types.Param.{Param}
use Rattle.wit_type_tree.specs.declared.types.«Type».{«Type» as Written}
use Rattle.wit_names.specs.Folded.{lower_case}
use Rattle.wit_syntax.specs.Fault.{Fault, missing_at, function_as_type, name_word, param_twice}
use Rattle.wit_syntax.specs.Function.{Role, Freestanding, SourceParam, SourceFunction, written_param}
use Rattle.wit_syntax.specs.Source.{ScopeName, meaning}
use Rattle.wit_first.specs.AttributeFaults.{metadata_fault}
use Rattle.wit_first.specs.First.{first_after, repeat_of}
use Rattle.wit_first.specs.FunctionFaults.{given_fault, getter_fault, result_fault}
use Rattle.wit_first.specs.TypeFaults.{type_fault}
use Rattle.wit_syntax.specs.SignatureRules.{result_ok}

-- a function of an interface belongs to no resource and has this written name
abbrev pub is_free : List ℕ → Role → Bool
is_free name (Freestanding id form) = bytes_eq id.name.now name
is_free name role = false

-- a name in a signature that means nothing is that of one of these functions, or of none
abbrev pub lost_word : List SourceFunction → Id → Fault
lost_word fns id = if list_any (λ (fn : SourceFunction). is_free id.name.now fn.role) fns then function_as_type id else missing_at 29 name_word id

abbrev pub word_fault : List ScopeName → List SourceFunction → Id → Option Fault
word_fault xs fns id = if is_none (meaning xs id.name.now) then Some (lost_word fns id) else None

-- of a type in the signature of the last of these functions, where `handle` is the fault of a name in a handle that means something
abbrev pub signed_fault : List ScopeName → List SourceFunction → (Id → Option Fault) → Written → Option Fault
signed_fault xs fns handle t = type_fault (word_fault xs fns) (λ (id : Id). option_or (word_fault xs fns id) (handle id)) t

-- of a parameter, where `wrong` is the fault of a type: an earlier one has its name once case is folded, and then its type
abbrev pub param_fault : (Written → Option Fault) → SourceFunction → List Param → Param → Option Fault
param_fault wrong fn before p = option_or (repeat_of (λ (q : SourceParam). lower_case q.name) (λ (q : SourceParam). param_twice q.name q.span) (fn.given ++ map written_param before) (written_param p)) (wrong p.ty)

-- of the result: where one is written, its type first
abbrev pub return_fault : (Written → Option Fault) → List ScopeName → SourceFunction → Option Written → Option Fault
return_fault wrong xs fn None = getter_fault fn.func.form fn.func.span
return_fault wrong xs fn (Some t) = option_or (wrong t) (result_fault fn.func.form fn.role t (result_ok xs t))

-- of a function: its attributes, how many parameters there are, each of them, and the result
abbrev pub function_fault : (Written → Option Fault) → List ScopeName → SourceFunction → Option Fault
function_fault wrong xs fn = option_or (metadata_fault fn.attributes) (option_or (given_fault fn) (option_or (first_after (param_fault wrong fn) [] fn.func.params.items) (return_fault wrong xs fn fn.func.result)))
