-- The types in a function's signature.
use Rattle.std.specs.Prelude.{ℕ, Bool, false, List, ◌++◌, Option, Some, None, map, nat_eq, option_to_list, slice_get}
use Rattle.wit_functions.specs.FunctionKinds.{constructed}
use Rattle.wit_types.specs.InnerTypes.{place_of_slot}
use Rattle.wit_functions.specs.declared.function.Function.{Function}
use Rattle.wit_functions.specs.declared.signature.ParamResultTypes.{ParamResultTypes}
use Rattle.wit_types.specs.declared.types.Handle.TheVariants as handle
use Rattle.wit_types.specs.declared.types.TypeDef.{TypeDef}
use Rattle.wit_types.specs.declared.types.TypeDefKind.{TypeDefKind}
use Rattle.wit_types.specs.declared.types.TypeDefKind.TheVariants as kind
use Rattle.wit_types.specs.declared.types.«Type».{«Type» as Ty}

-- the types of the parameters in order, and then the result
abbrev pub signature : Function → List Ty
signature f = map (λ p. p.ty) f.params ++ option_to_list f.result

-- the types that an iterator over a signature has left
abbrev pub types_left : ParamResultTypes → List Ty
types_left s = map (λ p. p.ty) s.params.now ++ option_to_list s.result

-- the resource of a handle that owns it
abbrev pub owned : TypeDefKind → Option ℕ
owned (kind.Handle (handle.Own i)) = Some i
owned (kind.Handle (handle.Borrow i)) = None
owned (kind.Record r) = None
owned kind.Resource = None
owned (kind.Flags f) = None
owned (kind.Tuple t) = None
owned (kind.Variant v) = None
owned (kind.Enum e) = None
owned (kind.Option t) = None
owned (kind.Result r) = None
owned (kind.List t) = None
owned (kind.Map k v) = None
owned (kind.FixedLengthList t n) = None
owned (kind.Future t) = None
owned (kind.Stream t) = None
owned (kind.Type_ t) = None
owned kind.Unknown = None

abbrev pub owned_by : Option TypeDef → Option ℕ
owned_by None = None
owned_by (Some d) = owned d.kind

-- the resource that the type at a place owns
abbrev pub owned_at : List TypeDef → Option ℕ → Option ℕ
owned_at types None = None
owned_at types (Some i) = owned_by (slice_get types i)

-- both are there and the same
abbrev pub is_same_place : Option ℕ → Option ℕ → Bool
is_same_place None q = false
is_same_place (Some i) None = false
is_same_place (Some i) (Some j) = nat_eq i j

-- a constructor whose result is a type that owns the resource
abbrev pub is_shorthand : List TypeDef → Function → Bool
is_shorthand types f = is_same_place (constructed f.kind) (owned_at types (place_of_slot f.result))
