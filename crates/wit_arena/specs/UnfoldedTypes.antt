-- What types of a package mean: the arenas unfolded, whose names are by what the package calls them, and what an interface says.
use Rattle.std.specs.Prelude.{◌≡◌, ℕ, suc, ◌<◌, Bool, true, false, nat_eq, List, [], ◌∷◌, ◌++◌, Option, Some, None, map, find, slice_get}
use Rattle.wit_arena.specs.Names.{Address, AstItem, Exported, ForeignNamed, Function, FunctionKey, Head, Imported, InlineAt, Interface, InterfaceNamed, Leaf, Named, Node, Nothing, PackageName, Param, Stability, Tree, TypeDef, TypeOwner, Unnamed, UnresolvedPackage, World, WorldItem, WorldKey, WorldNamed, WorldSide, filter, flat_map, option_and_then, option_map, option_map_or, option_or, option_to_list, unfolded, «Type» as Ty}
use Rattle.wit_model.specs.declared.ast_item.AstItem.TheVariants as entry
use Rattle.wit_model.specs.declared.world.WorldKey.TheVariants as key
use Rattle.wit_model.specs.declared.world.WorldItem.TheVariants as item
use Rattle.wit_types.specs.declared.types.«Type».TheVariants as type
use Rattle.wit_types.specs.declared.types.TypeOwner.TheVariants as owner
use Rattle.wit_arena.specs.Kind.{kind_of}

-- what other packages' items a package names, each with its address
abbrev pub dep_items : PackageName × List (List ℕ × (AstItem × List Stability)) → List (AstItem × Address)
dep_items d = map (λ e. (e.1.0, ForeignNamed d.0 e.0)) d.1

-- whether two entries of the arenas are one
abbrev pub same_entry : AstItem → AstItem → Bool
same_entry (entry.Interface i) (entry.Interface j) = nat_eq i j
same_entry (entry.World i) (entry.World j) = nat_eq i j
same_entry _ _ = false

-- an item of another package, by what the package calls it
abbrev pub foreign_owner : UnresolvedPackage → AstItem → Option Address
foreign_owner p i = option_map (λ e. e.1) (find (λ e. same_entry e.0 i) (flat_map dep_items p.foreign_deps))

-- the interfaces among what is on a side
abbrev pub is_interface_item : WorldKey × WorldItem → Bool
is_interface_item (key, item.Interface id stability external_id docs span) = true
is_interface_item _ = false

abbrev pub interface_items : List (WorldKey × WorldItem) → List (WorldKey × WorldItem)
interface_items xs = filter is_interface_item xs

-- an interface that is under a name, at a place among those of a side of a world, with the address that it has where it is written there
abbrev pub interface_at : List ℕ → WorldSide → ℕ → WorldKey × WorldItem → List (ℕ × Address)
interface_at world side place (key.Name name, item.Interface id stability external_id docs span) = (id, InlineAt world side place) ∷ []
interface_at world side place _ = []

abbrev pub interfaces_from : List ℕ → WorldSide → ℕ → List (WorldKey × WorldItem) → List (ℕ × Address)
interfaces_from world side place [] = []
interfaces_from world side place (x ∷ xs) = interface_at world side place x ++ interfaces_from world side (suc place) xs

-- those of a world: first among its imports, and then among its exports
abbrev pub world_interfaces : World → List (ℕ × Address)
world_interfaces w = interfaces_from w.name Imported 0 (interface_items w.imports) ++ interfaces_from w.name Exported 0 (interface_items w.exports)

-- an interface that is written in a world, by the place where it is there
abbrev pub inline_owner : UnresolvedPackage → ℕ → Option Address
inline_owner p place = option_map (λ e. e.1) (find (λ e. nat_eq e.0 place) (flat_map world_interfaces p.worlds))

-- an interface goes by its name; one without a name is another package's, or is written in a world
abbrev pub named_interface : UnresolvedPackage → ℕ → Option (List ℕ) → Option Address
named_interface p place None = option_or (foreign_owner p (entry.Interface place)) (inline_owner p place)
named_interface p place (Some name) = Some (InterfaceNamed name)

-- a world goes by its name; one whose name is empty is another package's
abbrev pub named_world : UnresolvedPackage → ℕ → List ℕ → Option Address
named_world p place [] = foreign_owner p (entry.World place)
named_world p place (c ∷ cs) = Some (WorldNamed (c ∷ cs))

-- an owner by what the package calls it
abbrev pub owner_of : UnresolvedPackage → TypeOwner → Option Address
owner_of p (owner.Interface i) = option_and_then (λ (x : Interface). named_interface p i x.name) (slice_get p.interfaces i)
owner_of p (owner.World w) = option_and_then (λ (x : World). named_world p w x.name) (slice_get p.worlds w)
owner_of p owner.None = None

-- the type that an import is, under its name
abbrev pub import_types : WorldKey × WorldItem → List (List ℕ × ℕ)
import_types (key.Name name, item.Type_ id span) = (name, id) ∷ []
import_types _ = []

-- the types among the imports of a world, under their names
abbrev pub world_types : World → List (List ℕ × ℕ)
world_types w = flat_map import_types w.imports

-- the function that an import or an export is, under its name
abbrev pub item_functions : WorldKey × WorldItem → List (List ℕ × Function)
item_functions (key.Name name, item.Function f) = (name, f) ∷ []
item_functions _ = []

-- a function under its name, on a side
abbrev pub keyed : WorldSide → List ℕ × Function → FunctionKey × Function
keyed side f = ((side, f.0), f.1)

-- the functions among the imports of a world, and then those among its exports, under their sides and names
abbrev pub world_functions : World → List (FunctionKey × Function)
world_functions w = map (keyed Imported) (flat_map item_functions w.imports) ++ map (keyed Exported) (flat_map item_functions w.exports)

-- those of an interface are where imports do
abbrev pub interface_functions : Interface → List (FunctionKey × Function)
interface_functions i = map (keyed Imported) i.functions

-- the functions of an owner, under their sides and names
abbrev pub functions_of : UnresolvedPackage → TypeOwner → List (FunctionKey × Function)
functions_of p (owner.Interface i) = option_map_or interface_functions (slice_get p.interfaces i) []
functions_of p (owner.World w) = option_map_or world_functions (slice_get p.worlds w) []
functions_of p owner.None = []

-- the types of a function, in order
abbrev pub function_types : Function → List Ty
function_types f = map (λ (x : Param). x.ty) f.params ++ option_to_list f.result

-- the names of an owner's types, with their places
abbrev pub names_of : UnresolvedPackage → TypeOwner → List (List ℕ × ℕ)
names_of p (owner.Interface i) = option_map_or (λ (x : Interface). x.types) (slice_get p.interfaces i) []
names_of p (owner.World w) = option_map_or world_types (slice_get p.worlds w) []
names_of p owner.None = []

-- a named entry without its body
abbrev pub entry_head : UnresolvedPackage → List ℕ → TypeDef → Head
entry_head p name e = record { owner = owner_of p e.owner; name = name; span = e.span; docs = e.docs; stability = e.stability; external_id = e.external_id }

abbrev pub entry_node : UnresolvedPackage → Option (List ℕ) → TypeDef → Node Ty
entry_node p None e = Unnamed (kind_of e.kind).0 (kind_of e.kind).1
entry_node p (Some name) e = Named (entry_head p name e) (kind_of e.kind).0 (kind_of e.kind).1

-- one level of a type of the package
abbrev pub package_node : UnresolvedPackage → Ty → Node Ty
package_node p (type.Id i) = option_map_or (λ (e : TypeDef). entry_node p e.name e) (slice_get p.types i) Nothing
package_node p t = Leaf t

-- the tree of a type, to n levels
abbrev pub package_tree : UnresolvedPackage → (n : ℕ) → Ty → Tree n
package_tree p n ty = unfolded (package_node p) n ty

-- an entry is at a place
pub record At (es : List TypeDef) (i : ℕ) (e : TypeDef) : Type 0 where
  pub is : slice_get es i ≡ Some e

-- a type names no place from n on
abbrev pub IsBelow : ℕ → Ty → Type 0
IsBelow n (type.Id i) = i < n
IsBelow n _ = Unit {0}
