-- Parts of items that are borrowed, where their paths to interfaces lead, and what is found by names.
use Rattle.std.specs.Prelude.{List, map, ◌≡◌, ◌≤◌, ℕ, Option, Some, slice_get, ◌<◌, length, None, Contains}
use Rattle.wit_arena.specs.Common.{Address, PackageFile, foreign_interfaces, visited, Names, World, env_of, option_and_then, AstItem, Declared, DefinitionPart, ExternPart, Foreign, ForeignNamed, FunctionPart, IncludePart, Item, Local, Part, Target, UsePart, UsePath, about, all_items, flat_map, foreign_at, foreign_entry, option_map, package_of, use_path}
use Rattle.wit_tree.specs.declared.tree.PackageName.{PackageName as Header}
use Rattle.wit_files.specs.FileNames.{top_at}
use Rattle.wit_items.specs.declared.part_names.Part.{Part as BorrowedPart}
use Rattle.wit_scopes.specs.declared.scope_name.Source.{Source}
use Rattle.wit_model.specs.declared.ast_item.AstItem.TheVariants as entry
use Rattle.wit_items.specs.declared.part_names.Part.TheVariants as borrowed_part
use Rattle.wit_scopes.specs.declared.scope_name.Source.TheVariants as source

-- those of other packages whose interfaces files name
abbrev pub prefix_of : List PackageFile → List Address
prefix_of files = map visited (foreign_interfaces files)

-- each name that is found is the name of what is at its place, after so many others
abbrev pub AreFound : {X : Type 0} → (X → Option (List ℕ)) → ℕ → List X → Names → Type 0
AreFound called count xs by_name = (name : List ℕ) (place : ℕ) → env_of by_name name ≡ Some place → (count ≤ place) × (option_and_then called (slice_get xs place) ≡ Some name)

-- none, where there is no such place or the file has none
abbrev pub header_at : List PackageFile → ℕ → Option Header
header_at files place = option_and_then (λ (f : PackageFile). f.package_id) (slice_get files place)

-- the part that is borrowed
abbrev pub part_view : BorrowedPart → Part
part_view (borrowed_part.DefinitionPart d) = DefinitionPart d.now
part_view (borrowed_part.UsePart u) = UsePart u.now
part_view (borrowed_part.IncludePart i) = IncludePart i.now
part_view (borrowed_part.FunctionPart f) = FunctionPart f.now
part_view (borrowed_part.ExternPart x) = ExternPart x.now

-- what is declared in the file at a place, as an item
abbrev pub item_in : List PackageFile → ℕ → Declared → Item
item_in files place d = record { top = top_at files place; declared = d }

-- this is an item that the file at a place declares
pub record HasItem (files : List PackageFile) (place : ℕ) (d : Declared) : Type 0 where
  pub within : place < length files
  pub among : Contains (all_items files) (item_in files place d)

-- this is among what such an item has
pub record HasAmong {X : Type 0} (files : List PackageFile) (place : ℕ) (of : Declared → List X) (x : X) : Type 0 where
  pub declared : Declared
  pub item : HasItem files place declared
  pub among : Contains (of declared) x

-- this is a path of such an item that wants an interface
abbrev pub HasPath : List PackageFile → ℕ → UsePath → Type 0
HasPath files place path = HasAmong files place (λ d. flat_map use_path (about d).parts) path

-- the entry of the item of another package that is where a path leads
abbrev pub entry_at : List PackageFile → Target → Option AstItem
entry_at files (Local id) = None
entry_at files (Foreign p id) = option_map (foreign_entry files) (foreign_at files (ForeignNamed p id.name.now))

-- where that is a world, its place
abbrev pub world_entry : Option AstItem → Option ℕ
world_entry (Some (entry.World w)) = Some w
world_entry x = None

-- the world to which a path leads, where the declared ones have these places
abbrev pub world_at : List PackageFile → Names → Target → Option ℕ
world_at files by_name (Local id) = env_of by_name id.name.now
world_at files by_name (Foreign p id) = world_entry (entry_at files (Foreign p id))

-- what leads to the interface that is borrowed
abbrev pub source_target : Source → Target
source_target (source.Declared id) = Local id
source_target (source.Foreign place of name) = Foreign (package_of of.now) name
