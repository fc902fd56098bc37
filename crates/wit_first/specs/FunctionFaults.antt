-- The first fault of what a function is given, and of what it gives: E36, E37 and E39 to E42.
use Rattle.std.specs.Prelude.{Bool, false, if◌then◌else◌, List, [], ◌∷◌, Option, Some, None}
use Rattle.std.specs.Str.{bytes_eq}
use Rattle.wit_values.specs.declared.span.Span.{Span}
use Rattle.wit_type_tree.specs.declared.leaves.Id.{Id}
use Rattle.wit_type_tree.specs.declared.types.FuncForm.{FuncForm}
use Rattle.wit_type_tree.specs.declared.types.FuncForm.TheVariants as form
use Rattle.wit_type_tree.specs.declared.types.Param.{Param}
use Rattle.wit_type_tree.specs.declared.types.«Type».{«Type» as Written}
use Rattle.wit_type_tree.specs.declared.types.«Type».TheVariants as written
use Rattle.wit_syntax.specs.Fault.{Fault, fault}
use Rattle.wit_syntax.specs.Function.{Role, Constructor, SourceFunction}
use Rattle.wit_syntax.specs.SignatureRules.{ok_span, type_span}

-- a getter has a parameter, or a setter has not just one
abbrev pub params_fault : FuncForm → List Param → Span → Option Fault
params_fault form.Getter (first ∷ rest) span = Some (fault 36 first.name.span)
params_fault form.Setter [] span = Some (fault 37 span)
params_fault form.Setter (first ∷ second ∷ rest) span = Some (fault 37 second.name.span)
params_fault form params span = None

abbrev pub given_fault : SourceFunction → Option Fault
given_fault fn = params_fault fn.func.form fn.func.params.items fn.func.span

-- a function without a result is a getter
abbrev pub getter_fault : FuncForm → Span → Option Fault
getter_fault form.Getter span = Some (fault 39 span)
getter_fault form span = None

-- the result of a setter is no `result`, or gives something where all is well; the option is what it gives there, if it is a `result`
abbrev pub setter_fault : Written → Option (Option Written) → Option Fault
setter_fault t (Some None) = None
setter_fault t ok = Some (fault 40 (type_span t))

-- a type is written as this name, or as a handle that owns it
abbrev pub is_written_as : Id → Option Written → Bool
is_written_as id (Some (written.Name word)) = bytes_eq word.name.now id.name.now
is_written_as id (Some (written.Own span word)) = bytes_eq word.name.now id.name.now
is_written_as id t = false

-- the result of a constructor is no `result`, or gives something else than the resource
abbrev pub made_fault : Id → Written → Option (Option Written) → Option Fault
made_fault of t None = Some (fault 41 (type_span t))
made_fault of t (Some ok) = if is_written_as of ok then None else Some (fault 42 (ok_span t))

-- of the result of a function
abbrev pub result_fault : FuncForm → Role → Written → Option (Option Written) → Option Fault
result_fault form.Setter role t ok = setter_fault t ok
result_fault form (Constructor of) t ok = made_fault of t ok
result_fault form role t ok = None
