-- The paths of a file, each with the item that it is in, the attributes before it, the names that are used from what it leads to, and what that has to be.
use Rattle.std.specs.Prelude.{if◌then◌else◌, List, [], ◌∷◌, ◌++◌, Option, Some, None}
use Rattle.std.specs.List.{flat_map}
use Rattle.std.specs.Option.{option_map}
use denote.Ref.{Bor}
use Rattle.wit_type_tree.specs.declared.leaves.Id.{Id}
use Rattle.wit_type_tree.specs.declared.leaves.Attribute.{Attribute}
use Rattle.wit_tree.specs.declared.tree.UsePath.{UsePath}
use Rattle.wit_tree.specs.declared.tree.Use.{Use}
use Rattle.wit_tree.specs.declared.tree.UseName.{UseName}
use Rattle.wit_tree.specs.declared.tree.Interface.{Interface}
use Rattle.wit_tree.specs.declared.tree.InterfaceItem.{InterfaceItem}
use Rattle.wit_tree.specs.declared.tree.InterfaceItem.TheVariants.{TypeDef as TypeItem, Use as UseItem, Func as FuncItem}
use Rattle.wit_tree.specs.declared.tree.World.{World}
use Rattle.wit_tree.specs.declared.tree.WorldItem.{WorldItem}
use Rattle.wit_tree.specs.declared.tree.WorldItem.TheVariants as world_item
use Rattle.wit_tree.specs.declared.tree.Extern.{Extern}
use Rattle.wit_tree.specs.declared.tree.ExternKind.{ExternKind}
use Rattle.wit_tree.specs.declared.tree.ExternKind.TheVariants as extern
use Rattle.wit_tree.specs.declared.tree.WorldSide.{WorldSide}
use Rattle.wit_tree.specs.declared.tree.WorldSide.TheVariants.{Imported, Exported}
use Rattle.wit_tree.specs.declared.tree.AstItem.{AstItem}
use Rattle.wit_tree.specs.declared.tree.AstItem.TheVariants.{Interface as InterfaceItem', World as WorldItem', Use as ToplevelItem}
use Rattle.wit_tree.specs.declared.tree.DeclList.{DeclList}
use Rattle.wit_tree.specs.declared.tree.PackageFile.{PackageFile}
use Rattle.wit_syntax.specs.ExternPart.{same_side}
use Rattle.wit_files.specs.declared.visit.Wanted.{Wanted}
use Rattle.wit_files.specs.declared.visit.Wanted.TheVariants as wanted
use Rattle.wit_files.specs.declared.visit.Visit.{Visit as Borrowed}

pub record Visit : Type 0 where
  -- the name of the item that needs what the path leads to; none, where no item does
  pub owner : Option Id
  pub attributes : List Attribute
  pub path : UsePath
  -- none, where no names are used from what the path leads to
  pub names : Option (List UseName)
  pub wanted : Wanted

-- of a `use`, which wants an interface, and of the item that needs it to come before, if one does
abbrev pub use_visit : Option Id → Use → Visit
use_visit owner u = record { owner = owner; attributes = u.attributes.items; path = u.from; names = Some u.names.items; wanted = wanted.Interface }

-- of a part of an interface
abbrev pub part_visits : Option Id → InterfaceItem → List Visit
part_visits owner (TypeItem d) = []
part_visits owner (UseItem u) = use_visit owner u ∷ []
part_visits owner (FuncItem f) = []

abbrev pub interface_visits : Interface → List Visit
interface_visits i = flat_map (part_visits (Some i.name)) i.items.items

-- of a part of a world of this name: the world does not need the interface of a `use` to come before it; an include wants a world, which it does
abbrev pub world_part_visits : Id → WorldItem → List Visit
world_part_visits owner (world_item.TypeDef d) = []
world_part_visits owner (world_item.Extern x) = []
world_part_visits owner (world_item.Use u) = use_visit None u ∷ []
world_part_visits owner (world_item.Include i) = record { owner = Some owner; attributes = i.attributes.items; path = i.from; names = None; wanted = wanted.World } ∷ []

-- of a path by which a world imports or exports an interface, which the world does not need to come before it
abbrev pub extern_visit : List Attribute → UsePath → Visit
extern_visit attributes path = record { owner = None; attributes = attributes; path = path; names = None; wanted = wanted.Interface }

-- of what a world imports or exports: of an interface that is written there, of each `use`; of one by its path, of that
abbrev pub kind_visits : List Attribute → ExternKind → List Visit
kind_visits attributes (extern.Interface name items) = flat_map (part_visits None) items.items
kind_visits attributes (extern.Path path) = extern_visit attributes path ∷ []
kind_visits attributes (extern.Func name f) = []
kind_visits attributes (extern.NamedPath name path) = extern_visit attributes path ∷ []

abbrev pub extern_visits : Extern → List Visit
extern_visits x = kind_visits x.attributes.items x.kind

-- of a part of a world, where it is on this side
abbrev pub side_part_visits : WorldSide → WorldItem → List Visit
side_part_visits side (world_item.TypeDef d) = []
side_part_visits side (world_item.Extern x) = if same_side side x.side then extern_visits x else []
side_part_visits side (world_item.Use u) = []
side_part_visits side (world_item.Include i) = []

-- of a world: first those of its uses and includes, then those of its imports, and then those of its exports
abbrev pub world_visits : World → List Visit
world_visits w = flat_map (world_part_visits w.name) w.items.items ++ (flat_map (side_part_visits Imported) w.items.items ++ flat_map (side_part_visits Exported) w.items.items)

-- of a declaration: a `use` at the top of a file may lead to any item
abbrev pub item_visits : AstItem → List Visit
item_visits (InterfaceItem' i) = interface_visits i
item_visits (WorldItem' w) = world_visits w
item_visits (ToplevelItem u) = record { owner = None; attributes = u.attributes.items; path = u.item; names = None; wanted = wanted.Unknown } ∷ []

abbrev pub visits : DeclList → List Visit
visits list = flat_map item_visits list.items.items

-- the visits of files, in push order
abbrev pub all_visits : List PackageFile → List Visit
all_visits files = flat_map (λ (f : PackageFile). visits f.decl_list) files

-- the visit that is borrowed
abbrev pub visit_view : Borrowed → Visit
visit_view v = record { owner = v.owner; attributes = v.attributes.now; path = v.path.now; names = option_map (λ (names : Bor (List UseName)). names.now) v.names; wanted = v.wanted }
