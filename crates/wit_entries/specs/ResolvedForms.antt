-- What a written type is once its parts are resolved.
use Rattle.std.specs.Prelude.{◌≡◌, List, [], ◌∷◌, Result, Vec}
use Rattle.wit_arena.specs.Common.{Address, AreResolved, Body, Env, Global, Of, ParseError, Required, Shape, Shapes, Stability, TypeDef, TypeDefKind, Type_, all_handles, all_shapes, env_of, handles, kind_of, shape_of, «Type» as Ty}
use Rattle.wit_type_tree.specs.declared.types.«Type».{«Type» as Written}
use Rattle.wit_type_tree.specs.declared.types.«Type».TheVariants as written
use Rattle.wit_syntax.specs.Shape.{one}
use Rattle.wit_arena.specs.Faithful.{IsAnonymousForm}
use Rattle.wit_entries.specs.EntryFaults.{lost_in, written_fault, Resolves}
use Rattle.wit_entries.specs.declared.types.Reading.{Reading}
use Rattle.wit_entries.specs.declared.types.Reading.TheVariants as reading
use Rattle.wit_entries.specs.declared.names.TypeScope.{TypeScope}
use Rattle.wit_first.specs.First.{first_in}

-- from whatever occurred, the new arena is that with what occurs in the parts of a form, or in types, in a definition of this stability, and they mean these
abbrev pub AreParts : List TypeDef → List TypeDef → Env → Stability → Shapes → List Ty → Type 0
AreParts old new env given xs tys = (s : Address) → AreResolved old new s env given xs tys

-- a kind is the form of a body over its resolved parts
pub record IsKindOf (old new : List TypeDef) (env : Env) (given : Stability) (body : Body) (kind : TypeDefKind) : Type 0 where
  pub form : (kind_of kind).0 ≡ body.form
  pub parts : AreParts old new env given body.parts (kind_of kind).1

-- a primitive or a name
abbrev pub IsLeaf : Shape → Type 0
IsLeaf (Of span form parts) = ⊥
IsLeaf x = Unit {0}

-- a list of any length
abbrev pub IsList : Written → Type 0
IsList (written.List' span p t) = Unit {0}
IsList t = ⊥

-- a primitive or a name is a type by now, and a form with a span is a kind over its resolved parts
abbrev pub IsRead : List TypeDef → List TypeDef → Env → Stability → Shape → Reading → Type 0
IsRead old new env given x (reading.Leaf ty) = IsLeaf x × AreParts old new env given (one x) (ty ∷ [])
IsRead old new env given (Of at form parts) (reading.Form kind span) = (at ≡ span) × ((kind_of kind).0 ≡ form) × IsAnonymousForm form × AreParts old new env given parts (kind_of kind).1
IsRead old new env given x (reading.Form kind span) = ⊥

-- the kind that this is under a name by itself: another word for a type, or the kind
abbrev pub named_kind : Reading → TypeDefKind
named_kind (reading.Leaf ty) = Type_ ty
named_kind (reading.Form kind span) = kind

-- a call reads a type
abbrev pub Reads : TypeScope → Stability → (old new : List TypeDef) → (before after : Vec Required Global) → Written → Result Reading ParseError → Type 0
Reads s given old new before after t r = Resolves (env_of s.names.now) old new before.items after.items (handles t) (written_fault (lost_in s.functions) (env_of s.names.now) new t) (IsRead old new (env_of s.names.now) given (shape_of t)) r

-- a call resolves types, one after another, to those in what it makes
abbrev pub ResolvesTypes : {T : Type 0} → TypeScope → Stability → (old new : List TypeDef) → (before after : Vec Required Global) → List Written → (T → List Ty) → Result T ParseError → Type 0
ResolvesTypes s given old new before after ts types r = Resolves (env_of s.names.now) old new before.items after.items (all_handles ts) (first_in (written_fault (lost_in s.functions) (env_of s.names.now) new) ts) (λ x. AreParts old new (env_of s.names.now) given (all_shapes ts) (types x)) r
