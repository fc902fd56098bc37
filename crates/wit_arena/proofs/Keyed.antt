-- Types and entries of the arena, each at the place of its key, and what occurs in expressions.
use Rattle.std.specs.Prelude.{◌≡◌, ℕ, List, [], ◌∷◌, ◌++◌, length, map, take, Some, None, slice_get}
use Rattle.wit_arena.specs.Names.{Address, AllDiffer, AreMetadata, Function, ScopeName, Shape, SourceFunction, TypeDef, Unknown, about_name, local_name, primitive_type, «Type» as Ty}
use Rattle.wit_arena.specs.Kind.{kind_of}
use Rattle.wit_arena.specs.Occurrences.{Decls, Def, End, Expr, Exprs, Key, More, Of, Prim, Use, Whole, name_exprs}
use Rattle.wit_arena.specs.Made.{function_in}
use Rattle.wit_arena.specs.Resolving.{AreResolved, Env, GivesPlaces, gathered}
use Rattle.wit_types.specs.declared.types.«Type».TheVariants as type
use Rattle.wit_types.specs.declared.types.TypeOwner.TheVariants as owner

-- a type is a primitive, or the place of its first occurrence
abbrev pub IsAt : List Key → Expr → Ty → Type 0
IsAt ks (Prim p) ty = ty ≡ primitive_type p
IsAt ks (Use scope name) ty = (i : ℕ) × (ty ≡ type.Id i) × (slice_get ks i ≡ Some (Def scope name))
IsAt ks (Of form parts) ty = (i : ℕ) × (ty ≡ type.Id i) × (slice_get ks i ≡ Some (Whole form parts))

abbrev pub AreAt : List Key → Exprs → List Ty → Type 0
AreAt ks End [] = Unit {0}
AreAt ks (More e es) (t ∷ ts) = IsAt ks e t × AreAt ks es ts
AreAt _ _ _ = ⊥

-- the entry of a key, whose parts are at their places
abbrev pub IsEntry : Decls → List Key → Key → TypeDef → Type 0
IsEntry decls ks (Def s name) e = (k : ℕ) × (x : ScopeName) × (slice_get (decls s).0 k ≡ Some x) × (local_name x ≡ name) × (e.name ≡ Some name) × (e.span ≡ (about_name x).span) × (e.owner ≡ (decls s).1)
    × ((kind_of e.kind).0 ≡ (about_name x).body.form) × AreAt ks (name_exprs s x) (kind_of e.kind).1 × AreMetadata (about_name x).metadata e.docs e.stability e.external_id
IsEntry decls ks (Whole form parts) e = (e.name ≡ None) × (e.owner ≡ owner.None) × ((kind_of e.kind).0 ≡ form) × AreAt ks parts (kind_of e.kind).1

-- the arena is what occurred, each once, and each entry that of its key over what occurred before
pub record IsKeyed (decls : Decls) (ks : List Key) (es : List TypeDef) : Type 0 where
  pub count : length es ≡ length ks
  pub once : AllDiffer ks
  pub each : (i : ℕ) (k : Key) (e : TypeDef) → slice_get ks i ≡ Some k → slice_get es i ≡ Some e → IsEntry decls (take i ks) k e

-- everything that occurs in expressions
abbrev mutual
  pub seen : Expr → List Key
  seen (Prim p) = []
  seen (Use scope name) = []
  seen (Of form parts) = all_seen parts ++ Whole form parts ∷ []

  pub all_seen : Exprs → List Key
  all_seen End = []
  all_seen (More e es) = seen e ++ all_seen es

abbrev pub one : Expr → Exprs
one e = More e End

-- over the places of these keys, these are the functions of a scope, in source order
abbrev pub AreFunctions : List Key → Address → List SourceFunction → List Function → Type 0
AreFunctions ks s written fs = (id : Key → ℕ) → GivesPlaces id ks → fs ≡ map (function_in id s) written

-- From whatever occurred, the new arena is that with what occurs in these types, and they mean those.
abbrev pub AreShapes : List TypeDef → List TypeDef → Address → Env → List Shape → List Ty → Type 0
AreShapes old new s env xs ts = AreResolved old new s env Unknown (gathered xs) ts
