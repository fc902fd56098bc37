-- Types as expressions, without spans, each name with the scope that it is in; and what occurs, each first.
use Rattle.std.specs.Prelude.{ℕ, List, ◌≡◌, [], ◌∷◌, ◌++◌, map, Some, ◌⊎◌, slice_get}
use Rattle.wit_arena.specs.Names.{Address, Form, ScopeName, Shape, Shapes, Span, Stability, TypeDef, TypeDefKind, TypeOwner, Unknown, about_name, first_known, local_name, option_map_or, primitive_type, unwrap_or, «Type» as Ty}
use Rattle.wit_type_tree.specs.declared.types.Primitive.{Primitive}
use Rattle.wit_arena.specs.Kind.{kind_of}
use Rattle.wit_syntax.specs.Shape as shape
use Rattle.wit_types.specs.declared.types.«Type».TheVariants as type

-- a primitive, a name of a scope, or a form over parts
mutual
  pub data Expr : Type 0 where
    Prim : (primitive : Primitive) → Expr
    Use : (scope : Address) (name : List ℕ) → Expr
    Of : (form : Form) (parts : Exprs) → Expr

  pub data Exprs : Type 0 where
    End : Exprs
    More : (first : Expr) (rest : Exprs) → Exprs

-- the expression of a type that is written in a scope
abbrev mutual
  pub expr_of : Address → Shape → Expr
  expr_of s (shape.Prim p) = Prim p
  expr_of s (shape.Word id) = Use s id.name.now
  expr_of s (shape.Of span form parts) = Of form (exprs_of s parts)

  pub exprs_of : Address → Shapes → Exprs
  exprs_of s shape.End = End
  exprs_of s (shape.More x xs) = More (expr_of s x) (exprs_of s xs)

-- the parts of a name of a scope: a used name has one, its original
abbrev pub name_exprs : Address → ScopeName → Exprs
name_exprs s x = exprs_of (unwrap_or (about_name x).from s) (about_name x).body.parts

-- what occurs: a name of a scope, or an unnamed type
pub data Key : Type 0 where
  Def : (scope : Address) (name : List ℕ) → Key
  Whole : (form : Form) (parts : Exprs) → Key

-- something that occurs, where it is written, and the stability of the definition that it is in, as far as that is known
pub record Occurrence : Type 0 where
  pub key : Key
  pub span : Span
  pub given : Stability

abbrev pub keys : List Occurrence → List Key
keys ms = map (λ m. m.key) ms

-- what occurs in a type: the parts of a form, and then the whole
abbrev mutual
  pub shape_occurrences : Address → Stability → Shape → List Occurrence
  shape_occurrences s given (shape.Of span form parts) = shapes_occurrences s given parts ++ record { key = Whole form (exprs_of s parts); span = span; given = given } ∷ []
  shape_occurrences s given _ = []

  pub shapes_occurrences : Address → Stability → Shapes → List Occurrence
  shapes_occurrences s given shape.End = []
  shapes_occurrences s given (shape.More x xs) = shape_occurrences s given x ++ shapes_occurrences s given xs

-- what occurs in a name of a scope: its parts, and then itself; the original of a used name occurred before
abbrev pub name_occurrences : Address → ScopeName → List Occurrence
name_occurrences s x = shapes_occurrences (unwrap_or (about_name x).from s) (about_name x).metadata.stability (about_name x).body.parts ++ record { key = Def s (local_name x); span = (about_name x).span; given = (about_name x).metadata.stability } ∷ []

abbrev pub IsSeen : List Key → Key → Type 0
IsSeen ks k = (i : ℕ) × (slice_get ks i ≡ Some k)

-- the last list is the first with what occurs anew, in order
abbrev pub Collects : List Occurrence → List Occurrence → List Occurrence → Type 0
Collects ms [] all = all ≡ ms
Collects ms (k ∷ ks) all = (IsSeen (keys ms) k.key × Collects ms ks all) ⊎ ((IsSeen (keys ms) k.key → ⊥) × Collects (ms ++ k ∷ []) ks all)

-- the type of an expression, where this gives the place of what occurs
abbrev pub type_of : (Key → ℕ) → Expr → Ty
type_of id (Prim p) = primitive_type p
type_of id (Use s name) = type.Id (id (Def s name))
type_of id (Of form parts) = type.Id (id (Whole form parts))

abbrev pub types_of : (Key → ℕ) → Exprs → List Ty
types_of id End = []
types_of id (More e es) = type_of id e ∷ types_of id es

-- the names of each scope, and the owner that the package knows it by
abbrev pub Decls : Type 0
Decls = Address → List ScopeName × TypeOwner

-- the stability of what a type means; of a primitive none is known
abbrev pub stability_at : List TypeDef → Ty → Stability
stability_at es (type.Id i) = option_map_or (λ (e : TypeDef). e.stability) (slice_get es i) Unknown
stability_at es ty = Unknown

-- the stability of an unnamed type of this kind among entries: that of the definition that it is in, where that is known, else the first known one of its parts
abbrev pub settled : List TypeDef → Stability → TypeDefKind → Stability
settled es given kind = first_known (given ∷ map (stability_at es) (kind_of kind).1)
