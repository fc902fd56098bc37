-- The rules of functions, and what it is that breaks each.
use Rattle.std.specs.Prelude.{◌≡◌, ℕ, ◌≤◌, List, codes, length, Option, Some, None, Contains, slice_get}
use Rattle.std.specs.List.{flat_map}
use Rattle.std.specs.Option.{option_map_or}
use Rattle.wit_values.specs.declared.span.Span.{Span}
use Rattle.wit_names.specs.Setter.{getter_of}
use Rattle.wit_type_tree.specs.declared.leaves.Id.{Id}
use Rattle.wit_type_tree.specs.declared.types.FuncForm.{FuncForm}
use Rattle.wit_type_tree.specs.declared.types.Param.{Param}
use Rattle.wit_type_tree.specs.declared.types.FuncForm.TheVariants as form
use Rattle.wit_type_tree.specs.declared.types.TypeBody.{TypeBody}
use Rattle.wit_type_tree.specs.declared.types.TypeBody.TheVariants as body
use Rattle.wit_type_tree.specs.declared.types.«Type».{«Type» as Written}
use Rattle.wit_type_tree.specs.declared.types.«Type».TheVariants as written
use Rattle.wit_type_tree.specs.TypeParts.{ok_type}
use Rattle.wit_syntax.specs.Fault.{Fault, fault, missing_at, function_as_type, lone_setter, name_word, param_twice}
use Rattle.wit_syntax.specs.Shape.{Word, shape_of, words}
use Rattle.wit_syntax.specs.Source.{ScopeName, Defined, local_id, local_name, meaning}
use Rattle.wit_syntax.specs.Function.{Freestanding, Constructor, SourceParam, SourceFunction, all_params, written_types, signature}
use Rattle.wit_syntax.specs.Metadata.{IsBrokenMetadata}
use Rattle.wit_names.specs.Folded.{lower_case}
use Rattle.wit_syntax.specs.Bodies.{IsSecond, IsBrokenPart}

-- a name of a scope, where it is, and the word for what has it: no two of them may clash
pub record Called : Type 0 where
  pub name : List ℕ
  pub span : Span
  pub sort : List ℕ

abbrev pub name_called : ScopeName → Called
name_called x = record { name = local_name x; span = (local_id x).span; sort = codes "type" }

-- where a written type is
abbrev pub type_span : Written → Span
type_span (written.Primitive span p) = span
type_span (written.Name id) = id.span
type_span (written.List' span p t) = span
type_span (written.FixedLengthList' span p t size) = span
type_span (written.Map' span p key q value) = span
type_span (written.Option' span p t) = span
type_span (written.Result span of) = span
type_span (written.Tuple' span shape ts) = span
type_span (written.Future' span t) = span
type_span (written.Stream' span t) = span
type_span (written.Own span id) = span
type_span (written.Borrow span id) = span

-- what a type that is written as a result gives where all is well, if it gives anything; nothing, where it is no result
abbrev pub ok_of : Written → Option (Option Written)
ok_of (written.Result span of) = Some (ok_type of)
ok_of t = None

abbrev pub body_ok : TypeBody → Option (Option Written)
body_ok (body.Plain t) = ok_of t
body_ok b = None

abbrev pub meant_ok : Option ScopeName → Option (Option Written)
meant_ok (Some (Defined d)) = body_ok d.body
meant_ok x = None

-- the name of a definition that is written as a result is one, another word for it is none
abbrev pub result_ok : List ScopeName → Written → Option (Option Written)
result_ok xs (written.Name id) = meant_ok (meaning xs id.name.now)
result_ok xs t = ok_of t

-- a type is written as a name, or as a handle that owns it
abbrev pub IsWrittenAs : Id → Written → Type 0
IsWrittenAs id t = (word : Id) × (shape_of t ≡ Word word) × (word.name.now ≡ id.name.now)

-- the freestanding function of a name is this one of an interface's functions or one before it
abbrev pub IsEntered : List SourceFunction → ℕ → List ℕ → Type 0
IsEntered fs k name = (place : ℕ) × (place ≤ k) × (fn : SourceFunction) × (slice_get fs place ≡ Some fn) × (id : Id) × (form : FuncForm) × (fn.role ≡ Freestanding id form) × (id.name.now ≡ name)

-- a name that means no type is that of a function, or of nothing: a fault says of the one, another of the other
pub data IsNoType (IsFunction : Type 0) (of_function of_nothing f : Fault) : Type 0 where
  OfFunction : IsFunction → f ≡ of_function → IsNoType IsFunction of_function of_nothing f
  OfNothing : (IsFunction → ⊥) → f ≡ of_nothing → IsNoType IsFunction of_function of_nothing f

-- a getter has a parameter
abbrev pub IsGetterGiven : SourceFunction → Fault → Type 0
IsGetterGiven fn f = (fn.func.form ≡ form.Getter) × (first : Param) × (slice_get fn.func.params.items 0 ≡ Some first) × (f ≡ fault 36 first.name.span)

-- a setter has not just one parameter
abbrev pub IsSetterGiven : SourceFunction → Fault → Type 0
IsSetterGiven fn f = (fn.func.form ≡ form.Setter) × (length fn.func.params.items ≡ 1 → ⊥) × (f ≡ fault 37 (option_map_or (λ (p : Param). p.name.span) (slice_get fn.func.params.items 1) fn.func.span))

-- an earlier parameter has the name once case is folded
abbrev pub IsDuplicateParam : SourceFunction → Fault → Type 0
IsDuplicateParam fn f = IsSecond (λ (p : SourceParam). lower_case p.name) (λ (p : SourceParam). param_twice p.name p.span) (all_params fn) f

-- a getter gives nothing
abbrev pub IsGetterWithoutResult : SourceFunction → Fault → Type 0
IsGetterWithoutResult fn f = (fn.func.form ≡ form.Getter) × (fn.func.result ≡ None) × (f ≡ fault 39 fn.func.span)

-- a setter gives something where all is well
abbrev pub IsSetterWithResult : List ScopeName → SourceFunction → Fault → Type 0
IsSetterWithResult xs fn f = (fn.func.form ≡ form.Setter) × (t : Written) × (fn.func.result ≡ Some t) × (result_ok xs t ≡ Some None → ⊥) × (f ≡ fault 40 (type_span t))

-- what a constructor gives is no result
abbrev pub IsConstructorWithoutResult : List ScopeName → SourceFunction → Fault → Type 0
IsConstructorWithoutResult xs fn f = (of : Id) × (fn.role ≡ Constructor of) × (t : Written) × (fn.func.result ≡ Some t) × (result_ok xs t ≡ None) × (f ≡ fault 41 (type_span t))

-- what a result gives where all is well, where it is written there, else the whole
abbrev pub ok_span : Written → Span
ok_span (written.Result span of) = option_map_or type_span (ok_type of) span
ok_span t = type_span t

-- a constructor's result gives something else than its resource
abbrev pub IsConstructorOfOther : List ScopeName → SourceFunction → Fault → Type 0
IsConstructorOfOther xs fn f = (of : Id) × (fn.role ≡ Constructor of) × (t : Written) × (fn.func.result ≡ Some t)
    × (ok : Option Written) × (result_ok xs t ≡ Some ok) × ((u : Written) → ok ≡ Some u → IsWrittenAs of u → ⊥) × (f ≡ fault 42 (ok_span t))

-- what is wrong with a function at a place among those of a scope
pub data IsBrokenFunction (xs : List ScopeName) (fs : List SourceFunction) (k : ℕ) (fn : SourceFunction) (f : Fault) : Type 0 where
  BrokenMetadata : IsBrokenMetadata fn.attributes f → IsBrokenFunction xs fs k fn f
  BrokenTypes : IsBrokenPart (written_types fn) f → IsBrokenFunction xs fs k fn f
  -- a name in its signature is none of the scope
  MissingInSignature : (id : Id) → Contains (flat_map words (signature fn)) id → meaning xs id.name.now ≡ None → IsNoType (IsEntered fs k id.name.now) (function_as_type id) (missing_at 29 name_word id) f → IsBrokenFunction xs fs k fn f
  GetterGiven : IsGetterGiven fn f → IsBrokenFunction xs fs k fn f
  SetterGiven : IsSetterGiven fn f → IsBrokenFunction xs fs k fn f
  DuplicateParam : IsDuplicateParam fn f → IsBrokenFunction xs fs k fn f
  GetterWithoutResult : IsGetterWithoutResult fn f → IsBrokenFunction xs fs k fn f
  SetterWithResult : IsSetterWithResult xs fn f → IsBrokenFunction xs fs k fn f
  ConstructorWithoutResult : IsConstructorWithoutResult xs fn f → IsBrokenFunction xs fs k fn f
  ConstructorOfOther : IsConstructorOfOther xs fn f → IsBrokenFunction xs fs k fn f

-- a setter has no getter of its spelling
abbrev pub IsUnpairedSetter : List SourceFunction → Fault → Type 0
IsUnpairedSetter fs f = (fn : SourceFunction) × Contains fs fn × (fn.func.form ≡ form.Setter) × ((g : SourceFunction) → Contains fs g → g.name ≡ getter_of fn.name → ⊥) × (f ≡ lone_setter fn.name fn.span)
