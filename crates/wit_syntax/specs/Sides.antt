-- What is on a side of a world, and what must not be there twice. The names of an interface are as those that a world imports.
use Rattle.std.specs.Prelude.{◌≡◌, ℕ, Bool, true, false, List, [], ◌∷◌, ◌++◌, codes, length, Option, Some, None, ⊤, map, take, Contains, slice_get}
use Rattle.std.specs.List.{filter, flat_map}
use Rattle.std.specs.Option.{option_map_or}
use Rattle.wit_type_tree.specs.declared.leaves.Id.{Id}
use Rattle.wit_type_tree.specs.declared.leaves.Attribute.{Attribute}
use Rattle.wit_type_tree.specs.declared.leaves.Docs.{Docs}
use Rattle.wit_tree.specs.declared.tree.Extern.{Extern}
use Rattle.wit_tree.specs.declared.tree.ExternKind.{ExternKind}
use Rattle.wit_tree.specs.declared.tree.ExternKind.TheVariants as extern
use Rattle.wit_type_tree.specs.declared.types.FuncForm.{FuncForm}
use Rattle.wit_type_tree.specs.declared.types.«Type».{«Type» as Written}
use Rattle.wit_tree.specs.declared.tree.InterfaceItem.{InterfaceItem}
use Rattle.wit_tree.specs.declared.tree.PackageFile.{PackageFile}
use Rattle.wit_tree.specs.declared.tree.UsePath.{UsePath}
use Rattle.wit_tree.specs.declared.tree.WorldSide.{WorldSide}
use Rattle.wit_tree.specs.declared.tree.WorldSide.TheVariants.{Imported, Exported}
use Rattle.wit_graph.specs.Table.{IsOrder}
use Rattle.wit_syntax.specs.ExternPart.{same_side}
use Rattle.wit_syntax.specs.Fault.{Fault, fault_in}
use Rattle.wit_syntax.specs.Metadata.{IsBrokenMetadata}
use Rattle.wit_syntax.specs.Bodies.{IsSecondIn}
use Rattle.wit_syntax.specs.Source.{TheInline, Part, DefinitionPart, FunctionPart, ExternPart, Item, item_name, parts, all_items, ScopeName, scope_names}
use Rattle.wit_syntax.specs.ScopeTables.{rows_of, in_turn}
use Rattle.wit_syntax.specs.Function.{Role, OnSide, SourceFunction, definition_functions, free_function, side_function, all_types}
use Rattle.wit_syntax.specs.SignatureRules.{Called, name_called}
use Rattle.wit_names.specs.Folded.{folded_key}

-- the side that a function of a role is on
abbrev pub role_side : Role → WorldSide
role_side (OnSide side id form) = side
role_side _ = Imported

-- what a function of a scope goes by: its side and its name
abbrev pub FunctionKey : Type 0
FunctionKey = WorldSide × List ℕ

abbrev pub function_key : SourceFunction → FunctionKey
function_key fn = (role_side fn.role, fn.name)

-- the functions on a side, in source order
abbrev pub on_side : WorldSide → List SourceFunction → List SourceFunction
on_side side fns = filter (λ fn. same_side side (role_side fn.role)) fns

-- An interface that a world imports or exports by its path: the side, the name of its own that it has there, if one, and what comes before it.
pub record Link : Type 0 where
  pub side : WorldSide
  pub name : Option Id
  pub path : UsePath
  pub docs : Docs
  pub attributes : List Attribute

-- what is on a side after the names of types: a function, an interface by its path, or one that is written there, under a name
pub data SideItem : Type 0 where
  SideFunction : (fn : SourceFunction) → SideItem
  SideLink : (link : Link) → SideItem
  SideInline : (x : Extern) (name : Id) (items : List InterfaceItem) → SideItem

abbrev pub extern_link : Extern → Option Id → UsePath → Link
extern_link x name path = record { side = x.side; name = name; path = path; docs = x.docs; attributes = x.attributes.items }

-- what a world imports or exports
abbrev pub extern_items : Extern → ExternKind → List SideItem
extern_items x (extern.Interface name items) = SideInline x name items.items ∷ []
extern_items x (extern.Path path) = SideLink (extern_link x None path) ∷ []
extern_items x (extern.Func name f) = SideFunction (side_function x.side x.docs x.attributes.items name f) ∷ []
extern_items x (extern.NamedPath name path) = SideLink (extern_link x (Some name) path) ∷ []

abbrev pub part_items : Part → List SideItem
part_items (DefinitionPart d) = map SideFunction (definition_functions d.name d.body)
part_items (FunctionPart f) = SideFunction (free_function f) ∷ []
part_items (ExternPart x) = extern_items x x.kind
part_items _ = []

-- what is on the sides of an item after its names of types, in source order
abbrev pub side_items : Item → List SideItem
side_items i = flat_map part_items (parts i)

-- the function that it is, if it is one
abbrev pub item_function : SideItem → List SourceFunction
item_function (SideFunction fn) = fn ∷ []
item_function _ = []

-- the functions of an item, in source order
abbrev pub functions : Item → List SourceFunction
functions i = flat_map item_function (side_items i)

-- the types that are written in an item
abbrev pub item_types : Item → List Written
item_types i = all_types (scope_names i) (functions i)

-- the link that it is, if it is one
abbrev pub item_link : SideItem → List Link
item_link (SideLink link) = link ∷ []
item_link _ = []

-- the links of an item, in source order
abbrev pub links : Item → List Link
links i = flat_map item_link (side_items i)

abbrev pub item_side : SideItem → WorldSide
item_side (SideFunction fn) = role_side fn.role
item_side (SideLink link) = link.side
item_side (SideInline x name items) = x.side

-- the interface that it is, if it is written there
abbrev pub item_inline : SideItem → List Extern
item_inline (SideInline x name items) = x ∷ []
item_inline _ = []

-- what is on a side, in source order
abbrev pub items_on : WorldSide → List SideItem → List SideItem
items_on side items = filter (λ x. same_side side (item_side x)) items

-- whether it is an interface, by its path or written there
abbrev pub is_interface : SideItem → Bool
is_interface (SideFunction fn) = false
is_interface _ = true

-- the item that an interface is which is written in another one, where this is its place among the interfaces of its side
abbrev pub inline_item : Item → ℕ → SideItem → List Item
inline_item i place (SideInline x name items) = record { top = i.top; declared = TheInline (item_name i) place x name items } ∷ []
inline_item i place _ = []

-- What is on the sides of an item after these, each with the interface that it is, if it is written there: the place of one is how many
-- interfaces come before it on its side.
abbrev pub members_after : Item → List SideItem → List SideItem → List (SideItem × List Item)
members_after i before [] = []
members_after i before (x ∷ xs) = (x, inline_item i (length (filter is_interface (items_on (item_side x) before))) x) ∷ members_after i (before ++ x ∷ []) xs

-- what is on the sides of an item, each with the interface that it is, if it is written there
abbrev pub members : Item → List (SideItem × List Item)
members i = members_after i [] (side_items i)

-- the interfaces that are written in an item, in source order
abbrev pub inline_items : Item → List Item
inline_items i = flat_map (λ m. m.1) (members i)

-- all items: those that files declare, each with those that are written in it
abbrev pub all_scopes : List PackageFile → List Item
all_scopes files = flat_map (λ (i : Item). i ∷ inline_items i) (all_items files)

-- the name that it has: an interface by its path may have none of its own
abbrev pub item_called : SideItem → List Called
item_called (SideFunction fn) = record { name = fn.name; span = fn.span; sort = codes "func" } ∷ []
item_called (SideLink link) = option_map_or (λ (id : Id). (record { name = id.name.now; span = id.span; sort = codes "interface" } ∷ [])) link.name []
item_called (SideInline x name items) = record { name = name.name.now; span = name.span; sort = codes "interface" } ∷ []

-- the names of types on a side: all are imported
abbrev pub names_on : {X : Type 0} → WorldSide → List X → List X
names_on Imported xs = xs
names_on Exported xs = []

-- the names on a side as they are resolved: those of types in an order of their table, and then those of what is there after them
abbrev pub side_called : WorldSide → List ScopeName → List SideItem → List ℕ → List Called
side_called side xs there order = map name_called (names_on side (in_turn xs order)) ++ flat_map item_called there

-- an earlier name on a side has the key of a later one
abbrev pub IsFoldedTwice : List ScopeName → List SideItem → Fault → Type 0
IsFoldedTwice xs items f = (side : WorldSide) × (order : List ℕ) × IsOrder (rows_of xs) order × IsSecondIn (λ (c : Called). folded_key c.name) (λ (c : Called) (words : List ℕ). fault_in 17 c.span words) (side_called side xs (items_on side items) order) f

-- what a world imports or exports under a name
abbrev pub IsExternPart : SideItem → Type 0
IsExternPart (SideFunction fn) = (side : WorldSide) × (id : Id) × (form : FuncForm) × (fn.role ≡ OnSide side id form)
IsExternPart _ = ⊤

-- an earlier name on a side is that of an import or an export
abbrev pub IsCrossedTwice : List ScopeName → List SideItem → Fault → Type 0
IsCrossedTwice xs items f = (side : WorldSide) × (order : List ℕ) × IsOrder (rows_of xs) order × (place : ℕ) × (later : SideItem) × (slice_get (items_on side items) place ≡ Some later) × IsExternPart later × (called : Called)
    × (item_called later ≡ called ∷ []) × (earlier : Called) × Contains (side_called side xs (take place (items_on side items)) order) earlier × (earlier.name ≡ called.name) × (words : List ℕ) × (f ≡ fault_in 44 called.span words)

-- the attributes before an interface, by its path or written there; those of a function are stated with it
abbrev pub interface_attributes : SideItem → List Attribute
interface_attributes (SideFunction fn) = []
interface_attributes (SideLink link) = link.attributes
interface_attributes (SideInline x name items) = x.attributes.items

-- what is wrong with what is on the sides of an item
pub data IsBrokenSides (i : Item) (f : Fault) : Type 0 where
  FoldedTwice : IsFoldedTwice (scope_names i) (side_items i) f → IsBrokenSides i f
  CrossedTwice : IsCrossedTwice (scope_names i) (side_items i) f → IsBrokenSides i f
  InterfaceMetadata : (x : SideItem) → Contains (side_items i) x → IsBrokenMetadata (interface_attributes x) f → IsBrokenSides i f
