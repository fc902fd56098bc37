-- The names of a scope, of which no two on one side may have one key, and what a function of it adds to the arena.
use Rattle.std.specs.Prelude.{ℕ, List, ◌≡◌, ◌+◌, ◌∷◌, [], IsTrue, Option, Result, Some, map, slice_get, take, Vec}
use Rattle.wit_names.specs.Folded.{folded_key}
use Rattle.wit_arena.specs.Common.{Address, AddsFunctions, Fault, Function, Global, Id, Param, ParseError, Required, ScopeName, SourceFunction, TypeDef, Unknown, all_handles, all_params, env_of, option_to_list, written_types, «Type» as Ty, all_shapes}
use Rattle.wit_refusals.specs.NameScopes.{Name}
use Rattle.wit_type_tree.specs.declared.types.«Type».{«Type» as Written}
use Rattle.wit_names.specs.Mangled.{is_mangled}
use Rattle.wit_type_tree.specs.declared.types.Param.{Param as WrittenParam}
use Rattle.wit_first.specs.First.{Finds, first_after}
use Rattle.wit_walk.specs.Functions.{function_fault, lost_word, param_fault, return_fault}
use Rattle.wit_entries.specs.EntryFaults.{IsExtended, Requires, Resolves, written_fault}
use Rattle.wit_rules.specs.Signatures.{AreParamsOver, IsResultOver, IsScopeOf, functions_view}
use Rattle.wit_rules.specs.declared.function_scope.FunctionScope.{FunctionScope}
use Rattle.wit_entries.specs.ResolvedForms.{AreParts}

abbrev pub name_of_id : Id → Name
name_of_id id = (id.name.now, id.span)

abbrev pub name_of_made : Function → Name
name_of_made f = (f.name, f.span)

abbrev pub name_of_function : SourceFunction → Name
name_of_function fn = (fn.name, fn.span)

-- the key by which a name is distinguished
abbrev pub name_key : Name → List ℕ
name_key n = folded_key n.0

-- the fault of a type in its signature
abbrev pub fault_at : FunctionScope → List TypeDef → ℕ → Written → Option Fault
fault_at s es place = written_fault (lost_word (take (place + 1) (functions_view s))) (env_of s.names.now) es

-- a call resolves a type in it, and all parameters
abbrev pub ResolvesSigned : FunctionScope → ℕ → (old new : List TypeDef) → (before after : Vec Required Global) → Written → Result Ty ParseError → Type 0
ResolvesSigned s place old new before after t r = Resolves (env_of s.names.now) old new before.items after.items (all_handles (t ∷ [])) (fault_at s new place t) (λ ty. AreParts old new (env_of s.names.now) Unknown (all_shapes (t ∷ [])) (ty ∷ [])) r

abbrev pub ResolvesParams : FunctionScope → ℕ → (old new : List TypeDef) → (before after : Vec Required Global) → SourceFunction → Result (List Param) ParseError → Type 0
ResolvesParams s place old new before after fn r = Resolves (env_of s.names.now) old new before.items after.items (all_handles (map (λ (p : WrittenParam). p.ty) fn.func.params.items)) (first_after (param_fault (fault_at s new place) fn) [] fn.func.params.items) (AreParamsOver old new (env_of s.names.now) (all_params fn)) r

-- this is the type of its result, and what is found of that
abbrev pub AddsResult : FunctionScope → (old new : List TypeDef) → (before after : Vec Required Global) → SourceFunction → Option Ty → Type 0
AddsResult s old new before after fn t = IsResultOver old new (env_of s.names.now) fn.result t × Requires (env_of s.names.now) new (all_handles (option_to_list fn.func.result)) before.items after.items

pub record FindsReturn {T : Type 0} (s : FunctionScope) (place : ℕ) (old new : List TypeDef) (fn : SourceFunction) (r : Result T ParseError) : Type 0 where
  pub extended : IsExtended old new
  pub first : (xs : List ScopeName) → IsScopeOf s xs → Finds (return_fault (fault_at s new place) xs fn fn.func.result) r

-- this is the function at a place, and what is found of that
pub record AddsAt (s : FunctionScope) (place : ℕ) (old new : List TypeDef) (before after : Vec Required Global) (f : Function) : Type 0 where
  pub adds : (fn : SourceFunction) → slice_get (functions_view s) place ≡ Some fn → (at : Address) → AddsFunctions old new at s.names.now (fn ∷ []) (f ∷ [])
  pub named : (fn : SourceFunction) → slice_get (functions_view s) place ≡ Some fn → (f.name ≡ fn.name) × (f.span ≡ fn.span)
  pub mangled : IsTrue (is_mangled f.name)
  pub handled : (fn : SourceFunction) → slice_get (functions_view s) place ≡ Some fn → Requires (env_of s.names.now) new (all_handles (written_types fn)) before.items after.items

pub record FindsFunction {T : Type 0} (s : FunctionScope) (place : ℕ) (old new : List TypeDef) (r : Result T ParseError) : Type 0 where
  pub extended : IsExtended old new
  pub first : (xs : List ScopeName) → IsScopeOf s xs → (fn : SourceFunction) → slice_get (functions_view s) place ≡ Some fn → Finds (function_fault (fault_at s new place) xs fn) r
