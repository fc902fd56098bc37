-- The items of files, the names of their scopes, and what a name means.
use Rattle.std.specs.Prelude.{if◌then◌else◌, ℕ, Bool, true, false, ◌&&◌, List, [], ◌∷◌, ◌++◌, Option, Some, None, map, find}
use Rattle.std.specs.List.{flat_map}
use Rattle.std.specs.Option.{option_map_or, unwrap_or}
use Rattle.std.specs.Str.{bytes_eq}
use Rattle.wit_values.specs.declared.span.Span.{Span}
use Rattle.wit_type_tree.specs.declared.leaves.Id.{Id}
use Rattle.wit_type_tree.specs.declared.leaves.Attribute.{Attribute}
use Rattle.wit_type_tree.specs.declared.leaves.Docs.{Docs as Comments}
use Rattle.wit_type_tree.specs.declared.types.TypeDef.{TypeDef}
use Rattle.wit_tree.specs.declared.tree.InterfaceItem.{InterfaceItem}
use Rattle.wit_tree.specs.declared.tree.InterfaceItem.TheVariants as interface_item
use Rattle.wit_tree.specs.declared.tree.WorldItem.{WorldItem}
use Rattle.wit_tree.specs.declared.tree.WorldItem.TheVariants as world_item
use Rattle.wit_tree.specs.declared.tree.Extern.{Extern}
use Rattle.wit_tree.specs.declared.tree.ExternKind.{ExternKind}
use Rattle.wit_tree.specs.declared.tree.ExternKind.TheVariants as extern
use Rattle.wit_tree.specs.declared.tree.Use.{Use}
use Rattle.wit_tree.specs.declared.tree.UsePath.{UsePath}
use Rattle.wit_tree.specs.declared.tree.UsePath.TheVariants as path
use Rattle.wit_tree.specs.declared.tree.UseName.{UseName}
use Rattle.wit_tree.specs.declared.tree.Include.{Include}
use Rattle.wit_type_tree.specs.declared.types.NamedFunc.{NamedFunc}
use Rattle.wit_tree.specs.declared.tree.Interface.{Interface}
use Rattle.wit_tree.specs.declared.tree.World.{World}
use Rattle.wit_tree.specs.declared.tree.AstItem.{AstItem}
use Rattle.wit_tree.specs.declared.tree.AstItem.TheVariants as ast
use Rattle.wit_tree.specs.declared.tree.PackageFile.{PackageFile}
use Rattle.wit_package_names.specs.declared.package_name.PackageName.{PackageName}
use Rattle.wit_syntax.specs.Form.{AliasForm, UnknownForm}
use Rattle.wit_tree.specs.declared.tree.WorldSide.{WorldSide}
use Rattle.wit_tree.specs.declared.tree.WorldSide.TheVariants.{Imported, Exported}
use Rattle.wit_syntax.specs.Address.{Address, InterfaceNamed, WorldNamed, InlineAt, ForeignNamed, package_of, same_address}
use Rattle.wit_syntax.specs.ExternPart.{same_side}
use Rattle.wit_syntax.specs.Repeats.{firsts}
use Rattle.wit_syntax.specs.Node.{Head, Node, Named, Nothing}
use Rattle.wit_syntax.specs.Shape.{Shape, Word, Shapes, End, More, one, Body, body_of}
use Rattle.wit_syntax.specs.Metadata.{Metadata, metadata, docs_of, no_docs}

-- the name that a path ends in
abbrev pub path_id : UsePath → Id
path_id (path.Id id) = id
path_id (path.Package p id) = id

-- where a path leads: to the item of a name, or to an item of another package
pub data Target : Type 0 where
  Local : (id : Id) → Target
  Foreign : (of : PackageName) (id : Id) → Target

-- an item: a declared interface, a declared world, or an interface that is written where a world imports or exports it, under a name, at a
-- place on its side
pub data Declared : Type 0 where
  TheInterface : (i : Interface) → Declared
  TheWorld : (w : World) → Declared
  TheInline : (world : List ℕ) (place : ℕ) (x : Extern) (name : Id) (items : List InterfaceItem) → Declared

-- a part of an item
pub data Part : Type 0 where
  DefinitionPart : (d : TypeDef) → Part
  UsePart : (u : Use) → Part
  IncludePart : (i : Include) → Part
  FunctionPart : (f : NamedFunc) → Part
  ExternPart : (x : Extern) → Part

abbrev pub interface_part : InterfaceItem → Part
interface_part (interface_item.TypeDef d) = DefinitionPart d
interface_part (interface_item.Use u) = UsePart u
interface_part (interface_item.Func f) = FunctionPart f

abbrev pub world_part : WorldItem → Part
world_part (world_item.TypeDef d) = DefinitionPart d
world_part (world_item.Use u) = UsePart u
world_part (world_item.Include i) = IncludePart i
world_part (world_item.Extern x) = ExternPart x

-- what is stated of an item: its name where it is written, and the name that it goes by, which an interface that is written in a world has not; its
-- docs and attributes; its scope; whether it is a world; and its parts, in source order
pub record About : Type 0 where
  pub id : Id
  pub called : Option (List ℕ)
  pub docs : Comments
  pub attributes : List Attribute
  pub address : Address
  pub is_world : Bool
  pub parts : List Part

abbrev pub about : Declared → About
about (TheInterface i) = record { id = i.name; called = Some i.name.name.now; docs = i.docs; attributes = i.attributes.items; address = InterfaceNamed i.name.name.now; is_world = false; parts = map interface_part i.items.items }
about (TheWorld w) = record { id = w.name; called = Some w.name.name.now; docs = w.docs; attributes = w.attributes.items; address = WorldNamed w.name.name.now; is_world = true; parts = map world_part w.items.items }
about (TheInline world place x name items) = record { id = name; called = None; docs = x.docs; attributes = x.attributes.items; address = InlineAt world x.side place; is_world = false; parts = map interface_part items }

abbrev pub declared_metadata : Declared → Metadata
declared_metadata d = metadata (docs_of (about d).docs) (about d).attributes

-- what is brought by a part that is imported, or exported, on a side
abbrev pub at_side : {X : Type 0} → (Extern → List X) → WorldSide → Part → List X
at_side of side (ExternPart x) = if same_side side x.side then of x else []
at_side of side _ = []

-- what parts bring: first what each does by itself, then what imports do, and then what exports do
abbrev pub walk : {X : Type 0} → (Part → List X) → (Extern → List X) → List Part → List X
walk own of ps = flat_map own ps ++ (flat_map (at_side of Imported) ps ++ flat_map (at_side of Exported) ps)

-- the uses of a part that are its own: those of an interface that is written in a world are that one's
abbrev pub own_uses : Part → List Use
own_uses (UsePart u) = u ∷ []
own_uses _ = []

-- the uses of an interface that is written where a world imports or exports it
abbrev pub inline_uses : ExternKind → List Use
inline_uses (extern.Interface name items) = flat_map own_uses (map interface_part items.items)
inline_uses _ = []

-- a name at the top of a file, and what it means
pub record TopName : Type 0 where
  pub id : Id
  pub target : Target

-- what a name at the top of a file goes by
abbrev pub top_text : TopName → List ℕ
top_text t = t.id.name.now

-- where a path leads in a file: a name leads to what the first at its top that goes by it means, every other path where it says
abbrev pub leads : List TopName → UsePath → Target
leads top (path.Id id) = option_map_or (λ (t : TopName). t.target) (find (λ (t : TopName). bytes_eq (top_text t) id.name.now) top) (Local id)
leads top (path.Package p id) = Foreign (package_of p) id

-- a declared item means itself, a `use` for what its path says where no name at the top is known
abbrev pub top_name : AstItem → TopName
top_name (ast.Interface i) = record { id = i.name; target = Local i.name }
top_name (ast.World w) = record { id = w.name; target = Local w.name }
top_name (ast.Use u) = record { id = unwrap_or u.as_ (path_id u.item); target = leads [] u.item }

-- the names at the top of a file, in source order
abbrev pub top_names : PackageFile → List TopName
top_names f = map top_name f.decl_list.items.items

-- an item, with the names at the top of its file
pub record Item : Type 0 where
  pub top : List TopName
  pub declared : Declared

abbrev pub declared_items : List TopName → AstItem → List Item
declared_items top (ast.Interface i) = record { top = top; declared = TheInterface i } ∷ []
declared_items top (ast.World w) = record { top = top; declared = TheWorld w } ∷ []
declared_items top (ast.Use u) = []

-- the items that a file declares, in source order
abbrev pub file_items : PackageFile → List Item
file_items f = flat_map (declared_items (top_names f)) f.decl_list.items.items

-- the items that all files declare, in push order and then in source order
abbrev pub all_items : List PackageFile → List Item
all_items files = flat_map file_items files

abbrev pub item_name : Item → List ℕ
item_name i = (about i.declared).id.name.now

-- the scope of an item
abbrev pub address : Item → Address
address i = (about i.declared).address

abbrev pub is_world : Item → Bool
is_world i = (about i.declared).is_world

abbrev pub parts : Item → List Part
parts i = (about i.declared).parts

-- all uses of an item: first its own, then those in interfaces that it imports, and then those in interfaces that it exports
abbrev pub all_uses : Item → List Use
all_uses i = walk own_uses (λ (x : Extern). inline_uses x.kind) (parts i)

-- the first item of a name
abbrev pub item_named : List Item → List ℕ → Option Item
item_named is name = find (λ i. bytes_eq (item_name i) name) is

-- the first item whose scope is at an address
abbrev pub item_at : List Item → Address → Option Item
item_at is s = find (λ i. same_address (address i) s) is

-- the scope that a path leads to: of this package, the interface or the world of that name
abbrev pub target_scope : (List ℕ → Address) → Target → Address
target_scope named (Local id) = named id.name.now
target_scope named (Foreign p id) = ForeignNamed p id.name.now

-- the scope that the path of a `use` leads to
abbrev pub path_scope : List TopName → UsePath → Address
path_scope top from = target_scope InterfaceNamed (leads top from)

-- a name of a scope: one that is used from an interface, with the attributes of its `use`, or a definition; or, of an item of another package, one that is taken from it
pub data ScopeName : Type 0 where
  Used : (from : Address) (attributes : List Attribute) (name : UseName) → ScopeName
  Defined : (d : TypeDef) → ScopeName
  ForeignName : (attributes : List Attribute) (id : Id) → ScopeName

-- what is stated of a name: what it goes by; where it is; the scope that what it means is read in, if that is another; what it means;
-- and its metadata
pub record AboutName : Type 0 where
  pub id : Id
  pub span : Span
  pub from : Option Address
  pub body : Body
  pub metadata : Metadata

-- a used name goes by the name that `as` gives it, or by its own; it is where its original is written, and is another word for that; what a
-- name of another package means is not known; both have the attributes of a `use`
abbrev pub about_name : ScopeName → AboutName
about_name (Used from attributes n) = record { id = unwrap_or n.as_ n.name; span = n.name.span; from = Some from; body = record { form = AliasForm; parts = one (Word n.name) }; metadata = metadata no_docs attributes }
about_name (Defined d) = record { id = d.name; span = d.name.span; from = None; body = body_of d.body; metadata = metadata (docs_of d.docs) d.attributes.items }
about_name (ForeignName attributes id) = record { id = id; span = id.span; from = None; body = record { form = UnknownForm; parts = End }; metadata = metadata no_docs attributes }

abbrev pub local_id : ScopeName → Id
local_id x = (about_name x).id

abbrev pub local_name : ScopeName → List ℕ
local_name x = (local_id x).name.now

-- the names that a part of an item brings
abbrev pub part_names : List TopName → Part → List ScopeName
part_names top (DefinitionPart d) = Defined d ∷ []
part_names top (UsePart u) = map (Used (path_scope top u.from) u.attributes.items) u.names.items
part_names top _ = []

-- the names of an item, in source order
abbrev pub scope_names : Item → List ScopeName
scope_names i = flat_map (part_names i.top) (parts i)

-- a name that is used from a scope, with the attributes of the `use`
pub record ForeignUse : Type 0 where
  pub from : Address
  pub attributes : List Attribute
  pub id : Id

-- the names that a `use` has from an item of another package, where its path leads to one
abbrev pub foreign_names : Use → Target → List ForeignUse
foreign_names u (Local id) = []
foreign_names u (Foreign p id) = map (λ (n : UseName). record { from = ForeignNamed p id.name.now; attributes = u.attributes.items; id = n.name }) u.names.items

-- the names that all items use from items of other packages
abbrev pub foreign_uses : List PackageFile → List ForeignUse
foreign_uses files = flat_map (λ (i : Item). flat_map (λ (u : Use). foreign_names u (leads i.top u.from)) (all_uses i)) (all_items files)

-- each name of another package where it is first used
abbrev pub first_foreign_uses : List PackageFile → List ForeignUse
first_foreign_uses files = firsts (λ a b. same_address a.from b.from && bytes_eq a.id.name.now b.id.name.now) (foreign_uses files)

-- what a name means: the first that goes by it
abbrev pub meaning : List ScopeName → List ℕ → Option ScopeName
meaning xs name = find (λ x. bytes_eq (local_name x) name) xs

-- the shape of a type, and the scope that it is written in
abbrev pub Place : Type 0
Place = Address × Shape

abbrev pub placed : Address → Shapes → List Place
placed s End = []
placed s (More x xs) = (s, x) ∷ placed s xs

-- a name of a scope, without what it means
abbrev pub head : Address → ScopeName → Head
head s x = record { owner = Some s; name = local_name x; span = (about_name x).span; docs = (about_name x).metadata.docs; stability = (about_name x).metadata.stability; external_id = (about_name x).metadata.external_id }

abbrev pub named_node : Address → Option ScopeName → Node Place
named_node s None = Nothing
named_node s (Some x) = Named (head s x) (about_name x).body.form (placed (unwrap_or (about_name x).from s) (about_name x).body.parts)
