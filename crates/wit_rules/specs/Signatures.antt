-- Written functions that are borrowed until their types are resolved, and what they are resolved in.
use Rattle.std.specs.Prelude.{Option, Some, None, ◌≡◌, ℕ, nat_eq, List, map, IsSome, slice_get, ⊤}
use Rattle.wit_arena.specs.Common.{Address, AreResolved, Constructor, Env, Fault, Id, Method, OnSide, Param, Role, ScopeName, Shape, SourceFunction, SourceParam, Static, TypeDef, Unknown, WorldSide, env_of, free_function, lookup, meaning, option_to_list, pointwise, resource_function, side_function, «Type» as Ty, Span, option_and_then}
use Rattle.wit_rules.specs.declared.borrowed.BorrowedFunction.{BorrowedFunction}
use Rattle.wit_rules.specs.declared.borrowed.BorrowedFunction.TheVariants.{Free, Of, Across}
use Rattle.wit_type_tree.specs.declared.types.«Type».{«Type» as Written}
use denote.Ref.{Bor}
use Rattle.wit_arena.specs.Resolving.{gathered}
use Rattle.wit_syntax.specs.SignatureRules.{ok_of, meant_ok, result_ok}
use Rattle.wit_first.specs.FunctionFaults.{result_fault}
use Rattle.wit_rules.specs.declared.function_scope.FunctionScope.{FunctionScope}

-- the function that is borrowed
abbrev pub function_view : BorrowedFunction → SourceFunction
function_view (Free f) = free_function f.now
function_view (Of r f) = resource_function r f.now
function_view (Across side docs attributes name f) = side_function side docs.now attributes.now name f.now

-- the resource that a function belongs to
abbrev pub owner_of : Role → Option Id
owner_of (Method of form) = Some of
owner_of (Static of form) = Some of
owner_of (Constructor of) = Some of
owner_of role = None

-- the resource that a method is first given
abbrev pub given_of : Role → Option Id
given_of (Method of form) = Some of
given_of role = None

-- the side of a world that imports or exports a function
abbrev pub across_of : Role → Option WorldSide
across_of (OnSide side id form) = Some side
across_of role = None

-- the resource that a constructor makes
abbrev pub made_of : Role → Option Id
made_of (Constructor of) = Some of
made_of role = None

-- a table has the definitions of a scope that are written as results, and so what each gives where all is well
pub record AreResults (results : List (List ℕ × Bor Written)) (xs : List ScopeName) : Type 0 where
  pub as_stated : (name : List ℕ) → option_and_then (λ t. ok_of t.now) (lookup (pointwise nat_eq name) results) ≡ meant_ok (meaning xs name)

-- the fault of what a function of such a scope gives
abbrev pub gives_fault : List ScopeName → SourceFunction → Written → Option Fault
gives_fault xs fn t = result_fault fn.func.form fn.role t (result_ok xs t)

-- functions are resolved in a scope of these names, which has no further one than those that mean places
pub record IsScopeOf (scope : FunctionScope) (xs : List ScopeName) : Type 0 where
  pub names : (name : List ℕ) → env_of scope.names.now name ≡ None → meaning xs name ≡ None
  pub results : AreResults scope.results.now xs

-- the functions of a scope
abbrev pub functions_view : FunctionScope → List SourceFunction
functions_view scope = map function_view scope.functions.now

-- each function of a resource is in a scope in which that has a place
abbrev pub HasOwner : Env → Option Id → Type 0
HasOwner env None = ⊤
HasOwner env (Some id) = IsSome (env id.name.now)

pub record HaveOwners (env : Env) (fns : List SourceFunction) : Type 0 where
  pub each : (k : ℕ) (fn : SourceFunction) → slice_get fns k ≡ Some fn → HasOwner env (owner_of fn.role)

-- these are the parameters, over their types, which were added to the arena
pub record AreParamsOver (old new : List TypeDef) (env : Env) (ws : List SourceParam) (ps : List Param) : Type 0 where
  pub says : map {B = List ℕ × Span} (λ p. (p.name, p.span)) ps ≡ map (λ w. (w.name, w.span)) ws
  pub types : (s : Address) → AreResolved old new s env Unknown (gathered (map (λ w. w.shape) ws)) (map (λ p. p.ty) ps)

-- this is the type of a result, which was added to the arena, where there is one
pub record IsResultOver (old new : List TypeDef) (env : Env) (x : Option Shape) (t : Option Ty) : Type 0 where
  pub types : (s : Address) → AreResolved old new s env Unknown (gathered (option_to_list x)) (option_to_list t)
