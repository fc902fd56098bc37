-- What is looked up in a package: entries by types and by names, and the names of entries.
use Rattle.std.specs.Prelude.{ℕ, Bool, false, List, [], ◌∷◌, Option, Some, None, nat_eq, nat_lt, position, if◌then◌else◌, slice_get}
use Rattle.std.specs.Cmp.Lexicographic.{pointwise}
use Rattle.std.specs.Option.{option_and_then, option_map, option_or}
use Rattle.wit_types.specs.declared.stability.Stability.{Stability}
use Rattle.wit_types.specs.declared.types.TypeDef.{TypeDef}
use Rattle.wit_types.specs.declared.types.TypeOwner.{TypeOwner}
use Rattle.wit_types.specs.declared.types.TypeOwner.TheVariants as owner
use Rattle.wit_package_names.specs.declared.package_name.PackageName.{PackageName}
use Rattle.wit_package_names.specs.PackageName.{interface_text}
use Rattle.wit_functions.specs.declared.function.Function.{Function}
use Rattle.wit_model.specs.declared.ast_item.AstItem.{AstItem}
use Rattle.wit_model.specs.declared.ast_item.AstItem.TheVariants as entry
use Rattle.wit_model.specs.declared.interface.Interface.{Interface}
use Rattle.wit_model.specs.declared.world.World.{World}
use Rattle.wit_model.specs.declared.world.WorldItem.{WorldItem}
use Rattle.wit_model.specs.declared.world.WorldItem.TheVariants as item
use Rattle.wit_model.specs.declared.world.WorldKey.{WorldKey}
use Rattle.wit_model.specs.declared.world.WorldKey.TheVariants as key
use Rattle.wit_model.specs.declared.unresolved.UnresolvedPackage.{UnresolvedPackage}

-- the place, if there are so many entries
abbrev pub place_within : ℕ → Option ℕ → Option ℕ
place_within len None = None
place_within len (Some place) = if nat_lt place len then Some place else None

-- whether a name is this one
abbrev pub is_name : List ℕ → Option (List ℕ) → Bool
is_name wanted None = false
is_name wanted (Some name) = pointwise nat_eq name wanted

-- the interface that an import or export is
abbrev pub interface_of : WorldItem → Option ℕ
interface_of (item.Interface id stability external_id docs span) = Some id
interface_of _ = None

-- the type that an import is
abbrev pub type_of : WorldItem → Option ℕ
type_of (item.Type_ id span) = Some id
type_of _ = None

-- the interface, or the world, that owns a type
abbrev pub owning_interface : TypeOwner → Option ℕ
owning_interface (owner.Interface id) = Some id
owning_interface _ = None

abbrev pub owning_world : TypeOwner → Option ℕ
owning_world (owner.World id) = Some id
owning_world _ = None

-- of the type at a place: its name, and the interface or the world that owns it
abbrev pub type_name : UnresolvedPackage → ℕ → Option (List ℕ)
type_name p place = option_and_then (λ (e : TypeDef). e.name) (slice_get p.types place)

abbrev pub type_interface : UnresolvedPackage → ℕ → Option ℕ
type_interface p place = option_and_then (λ (e : TypeDef). owning_interface e.owner) (slice_get p.types place)

abbrev pub type_world : UnresolvedPackage → ℕ → Option ℕ
type_world p place = option_and_then (λ (e : TypeDef). owning_world e.owner) (slice_get p.types place)

-- of the interface at a place: its name, if the package declares it, and its types and functions by their names
abbrev pub own_name : UnresolvedPackage → ℕ → Option (List ℕ)
own_name p place = option_and_then (λ (i : Interface). i.name) (slice_get p.interfaces place)

abbrev pub interface_types : UnresolvedPackage → ℕ → Option (List (List ℕ × ℕ))
interface_types p place = option_map (λ (i : Interface). i.types) (slice_get p.interfaces place)

abbrev pub interface_functions : UnresolvedPackage → ℕ → Option (List (List ℕ × Function))
interface_functions p place = option_map (λ (i : Interface). i.functions) (slice_get p.interfaces place)

-- of the world at a place: its name, what it imports and what it exports
abbrev pub world_name : UnresolvedPackage → ℕ → Option (List ℕ)
world_name p place = option_map (λ (w : World). w.name) (slice_get p.worlds place)

abbrev pub world_imports : UnresolvedPackage → ℕ → Option (List (WorldKey × WorldItem))
world_imports p place = option_map (λ (w : World). w.imports) (slice_get p.worlds place)

abbrev pub world_exports : UnresolvedPackage → ℕ → Option (List (WorldKey × WorldItem))
world_exports p place = option_map (λ (w : World). w.exports) (slice_get p.worlds place)

-- the first interface, and the first world, of a name
abbrev pub interface_named : List Interface → List ℕ → Option ℕ
interface_named xs name = position (λ (i : Interface). is_name name i.name) xs

abbrev pub world_named : List World → List ℕ → Option ℕ
world_named xs name = position (λ (w : World). is_name name (Some w.name)) xs

-- the name of the owner of a type, if it has one
abbrev pub owner_name : UnresolvedPackage → TypeOwner → Option (List ℕ)
owner_name p (owner.Interface id) = own_name p id
owner_name p (owner.World id) = world_name p id
owner_name p owner.None = None

abbrev pub type_owner_name : UnresolvedPackage → ℕ → Option (List ℕ)
type_owner_name p place = option_and_then (λ (e : TypeDef). owner_name p e.owner) (slice_get p.types place)

-- the first value that a function gives of a list
abbrev pub first_of : {A B : Type 0} → (A → Option B) → List A → Option B
first_of f [] = None
first_of f (x ∷ xs) = option_or (f x) (first_of f xs)

-- the name of another package's item, if it is the interface at a place
abbrev pub name_of_item : ℕ → List ℕ → AstItem → Option (List ℕ)
name_of_item place name (entry.Interface id) = if nat_eq id place then Some name else None
name_of_item place name (entry.World id) = None

abbrev pub name_at : ℕ → List ℕ × (AstItem × List Stability) → Option (List ℕ)
name_at place x = name_of_item place x.0 x.1.0

-- a package with its name of the interface at a place, if this is one of its items
abbrev pub foreign_in : ℕ → PackageName × List (List ℕ × (AstItem × List Stability)) → Option (PackageName × List ℕ)
foreign_in place d = option_map (λ (name : List ℕ). (d.0, name)) (first_of (name_at place) d.1)

-- the first of the foreign dependencies that has the interface at a place
abbrev pub foreign_name : ℕ → List (PackageName × List (List ℕ × (AstItem × List Stability))) → Option (PackageName × List ℕ)
foreign_name place deps = first_of (foreign_in place) deps

-- the package that declares an interface, and its name there; an inline interface has neither
abbrev pub path_of : UnresolvedPackage → ℕ → Option (PackageName × List ℕ)
path_of p place = option_or (option_map (λ name. (p.name, name)) (own_name p place)) (foreign_name place p.foreign_deps)

-- the id of an interface, as `a:b/c@1.0.0`
abbrev pub interface_id : UnresolvedPackage → ℕ → Option (List ℕ)
interface_id p place = option_map (λ path. interface_text path.0 path.1) (path_of p place)

-- the full name of an import or export: its name, or the id of the interface
abbrev pub key_name : UnresolvedPackage → WorldKey → Option (List ℕ)
key_name p (key.Name name) = Some name
key_name p (key.Interface id) = interface_id p id
