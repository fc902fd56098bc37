-- What holds of a resolved package: each written type has one at its position, with its tree, and nothing else is there.
use Rattle.std.specs.Prelude.{◌≡◌, ◌↔◌, ◌<◌, ℕ, All, List, [], ◌∷◌, length, Some, None, slice_get, Contains}
use Rattle.wit_arena.specs.Names.{Address, AliasForm, EnumForm, FlagsForm, Form, Function, IsLegal, Leaf, Named, Node, Nothing, OwnForm, PackageFile, Place, RecordForm, ResourceForm, ScopeName, Shape, SourceFunction, TypeDef, TypeOwner, UnknownForm, Unnamed, UnresolvedPackage, VariantForm, Word, function_key, local_id, local_name, scope, signature, source_node, source_tree, «Type» as Ty}
use Rattle.wit_types.specs.declared.types.«Type».TheVariants.{Id}
use Rattle.wit_arena.specs.Kind.{kind_of}
use Rattle.wit_arena.specs.Occurrences.{expr_of, Def, keys, type_of}
use Rattle.wit_arena.specs.UnfoldedTypes.{owner_of, names_of, functions_of, function_types, package_node, package_tree, IsBelow}
use Rattle.wit_arena.specs.Whole.{functions_at}
use Rattle.wit_arena.specs.Made.{Makes}

-- the parts of one level
abbrev pub node_parts : {X : Type 0} → Node X → List X
node_parts (Leaf t) = []
node_parts (Named head form parts) = parts
node_parts (Unnamed form parts) = parts
node_parts Nothing = []

-- y is below x, where step gives one level: it is the part at this path of numbers, from whole to part
abbrev pub LiesBelow : {X : Type 0} → (X → Node X) → X → List ℕ → X → Type 0
LiesBelow step x [] y = x ≡ y
LiesBelow {X} step x (k ∷ path) y = (part : X) × (slice_get (node_parts (step x)) k ≡ Some part) × LiesBelow step part path y

-- A written type of a scope, and the type of the package that it is: a name of the scope, and what it means among the names of the
-- scope's owner; or a type in the signature of a function of the scope, and the one at its index in the owner's function.
pub data IsRoot (files : List PackageFile) (p : UnresolvedPackage) (s : Address) (x : Shape) (ty : Ty) : Type 0 where
  OfName : (o : TypeOwner) (n : ScopeName) (id : ℕ) → owner_of p o ≡ Some s → Contains (scope files s) n → Contains (names_of p o) (local_name n, id) → x ≡ Word (local_id n) → ty ≡ Id id → IsRoot files p s x ty
  OfFunction : (o : TypeOwner) (fn : SourceFunction) (f : Function) (k : ℕ) → owner_of p o ≡ Some s → Contains (functions_at files s) fn → Contains (functions_of p o) (function_key fn, f) → slice_get (signature fn) k ≡ Some x → slice_get (function_types f) k ≡ Some ty → IsRoot files p s x ty

-- a written type has this type at its position in the package: they are below such two, both by one path
pub record HasType (files : List PackageFile) (p : UnresolvedPackage) (written : Place) (ty : Ty) : Type 0 where
  pub top : Place
  pub whole : Ty
  pub root : IsRoot files p top.0 top.1 whole
  pub path : List ℕ
  pub below : LiesBelow (source_node files) top path written
  pub is : LiesBelow (package_node p) whole path ty

-- a form that an unnamed type can have
abbrev pub IsAnonymousForm : Form → Type 0
IsAnonymousForm OwnForm = ⊥
IsAnonymousForm AliasForm = ⊥
IsAnonymousForm ResourceForm = ⊥
IsAnonymousForm UnknownForm = ⊥
IsAnonymousForm (RecordForm fields) = ⊥
IsAnonymousForm (FlagsForm flags) = ⊥
IsAnonymousForm (VariantForm cases) = ⊥
IsAnonymousForm (EnumForm cases) = ⊥
IsAnonymousForm _ = Unit {0}

-- Types refer only backwards, equal unnamed types are one, nothing is unreached, and every written type is, at its position, the tree that
-- lexical scope gives it.
pub record IsFaithful (files : List PackageFile) (p : UnresolvedPackage) : Type 0 where
  pub backward : (i : ℕ) (e : TypeDef) → slice_get p.types i ≡ Some e → All (IsBelow i) (kind_of e.kind).1
  pub interned : (i j : ℕ) (e f : TypeDef) → slice_get p.types i ≡ Some e → slice_get p.types j ≡ Some f → e.name ≡ None → f.name ≡ None → e.kind ≡ f.kind → i ≡ j
  -- an unnamed entry has a form that a type can have without a name: it is no own handle, no other word for a type, no resource
  pub formed : (i : ℕ) (e : TypeDef) → slice_get p.types i ≡ Some e → e.name ≡ None → IsAnonymousForm (kind_of e.kind).0
  -- the types of unknown form are exactly the start of the arena: as many as there are spans of unknown types
  pub prefix : (i : ℕ) (e : TypeDef) → slice_get p.types i ≡ Some e → ((kind_of e.kind).0 ≡ UnknownForm) ↔ (i < length p.unknown_type_spans)
  -- a named entry is among the names of its owner
  pub named : (j : ℕ) (e : TypeDef) (name : List ℕ) → slice_get p.types j ≡ Some e → e.name ≡ Some name → Contains (names_of p e.owner) (name, j)
  -- an unnamed one is that of a written type
  pub covered : (j : ℕ) (e : TypeDef) → slice_get p.types j ≡ Some e → e.name ≡ None → (x : Place) × HasType files p x (Id j)
  -- each name of a scope is one of its owner, and so is each function, with a type for each of its own
  pub names : (o : TypeOwner) (s : Address) (n : ScopeName) → owner_of p o ≡ Some s → Contains (scope files s) n → (id : ℕ) × Contains (names_of p o) (local_name n, id)
  pub functions : (o : TypeOwner) (s : Address) (fn : SourceFunction) → owner_of p o ≡ Some s → Contains (functions_at files s) fn → (f : Function) × Contains (functions_of p o) (function_key fn, f) × (length (function_types f) ≡ length (signature fn))
  -- two written types have one type exactly where they are one expression
  pub same : (x y : Place) (t u : Ty) → HasType files p x t → HasType files p y u → (t ≡ u) ↔ (expr_of x.0 x.1 ≡ expr_of y.0 y.1)
  -- and the tree of each, at every depth, is that of its type
  pub trees : (x : Place) (t : Ty) (n : ℕ) → HasType files p x t → package_tree p n t ≡ source_tree files n x

-- The arena of types is that of the package that files make: each name of an owner means the place where it is first seen, and at the position
-- of each written type is that of its expression, which is there.
pub record HasArena (files : List PackageFile) (p : UnresolvedPackage) : Type 0 where
  pub made : Makes files p
  pub names : (o : TypeOwner) (s : Address) (k : ℕ) (name : List ℕ) (id : ℕ) → owner_of p o ≡ Some s → slice_get (names_of p o) k ≡ Some (name, id) → slice_get (keys made.seen) id ≡ Some (Def s name)
  pub positions : (x : Place) (ty : Ty) → HasType files p x ty → (ty ≡ type_of made.id (expr_of x.0 x.1)) × IsBelow (length p.types) ty

-- files break no rule, and this is the package that they make
pub record IsMadeOf (files : List PackageFile) (p : UnresolvedPackage) : Type 0 where
  pub legal : IsLegal files
  pub whole : Makes files p
