-- One level of a type over what means its parts, and types unfolded to any depth.
use Rattle.std.specs.Prelude.{ℕ, zero, suc, List, Option, map}
use Rattle.wit_values.specs.declared.span.Span.{Span}
use Rattle.wit_type_tree.specs.declared.types.Primitive.{Primitive}
use Rattle.wit_type_tree.specs.declared.types.Primitive.TheVariants as primitive
use Rattle.wit_types.specs.declared.docs.Docs.{Docs}
use Rattle.wit_types.specs.declared.stability.Stability.{Stability}
use Rattle.wit_types.specs.declared.types.«Type».{«Type» as Ty}
use Rattle.wit_types.specs.declared.types.«Type».TheVariants as type
use Rattle.wit_syntax.specs.Form.{Form}
use Rattle.wit_syntax.specs.Address.{Address}

-- the type of a package that a primitive is
abbrev pub primitive_type : Primitive → Ty
primitive_type primitive.Bool = type.Bool
primitive_type primitive.U8 = type.U8
primitive_type primitive.U16 = type.U16
primitive_type primitive.U32 = type.U32
primitive_type primitive.U64 = type.U64
primitive_type primitive.S8 = type.S8
primitive_type primitive.S16 = type.S16
primitive_type primitive.S32 = type.S32
primitive_type primitive.S64 = type.S64
primitive_type primitive.F32 = type.F32
primitive_type primitive.F64 = type.F64
primitive_type primitive.Char = type.Char
primitive_type primitive.String = type.String
primitive_type primitive.ErrorContext = type.ErrorContext

-- a named type without its body; its owner, if it has one, is a scope, given by names alone
pub record Head : Type 0 where
  pub owner : Option Address
  pub name : List ℕ
  pub span : Span
  pub docs : Docs
  pub stability : Stability
  pub external_id : Option (List ℕ)

-- one level of a type
pub data Node (X : Type 0) : Type 0 where
  Leaf : (primitive : Ty) → Node X
  Named : (head : Head) (form : Form) (parts : List X) → Node X
  Unnamed : (form : Form) (parts : List X) → Node X
  -- a name or a place with nothing after it
  Nothing : Node X

abbrev pub node_map : {X Y : Type 0} → (X → Y) → Node X → Node Y
node_map f (Leaf t) = Leaf t
node_map f (Named head form parts) = Named head form (map f parts)
node_map f (Unnamed form parts) = Unnamed form (map f parts)
node_map f Nothing = Nothing

-- a tree of n levels, cut below
abbrev pub Tree : ℕ → Type 0
Tree zero = Unit {0}
Tree (suc n) = Node (Tree n)

-- the tree that grows from x, where step gives one level
abbrev pub unfolded : {X : Type 0} → (X → Node X) → (n : ℕ) → X → Tree n
unfolded step zero x = tt
unfolded step (suc n) x = node_map (unfolded step n) (step x)
