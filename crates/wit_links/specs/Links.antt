-- Where includes and the paths of a world lead, once all interfaces are resolved, and their first fault: E30 to E34 and E11; and what occurred on its sides.
use Rattle.std.specs.Prelude.{if◌then◌else◌, List, Option, None, Some, is_none, ◌≡◌, ℕ, false, length}
use Rattle.wit_arena.specs.Common.{Address, Exported, Fault, ForeignNamed, Imported, Include, InterfaceNamed, Item, Names, PackageFile, SideInline, SideItem, TopName, UsePath, WorldInclude, WorldSide, env_of, flat_map, includes, interface_there, is_world_at, item_function, item_inline, items_on, leads, option_or, path_id, path_scope, place_at, worlds_at}
use Rattle.wit_arena.specs.Made.{include_in, scope_place}
use Rattle.wit_arena.specs.Resolving.{GivesPlaces}
use Rattle.wit_first.specs.AttributeFaults.{stability_fault}
use Rattle.wit_first.specs.First.{first_in}
use Rattle.wit_items.specs.ItemPaths.{world_at, prefix_of}
use Rattle.wit_items.specs.BorrowedItems.{others_of}
use Rattle.wit_links.specs.declared.resolved.Resolved.{Resolved}
use Rattle.wit_first.specs.UseFaults.{path_fault}
use Rattle.wit_items.specs.ResolvedInterfaces.{unresolved_fault}
use Rattle.wit_items.specs.declared.items.InlineInterface.{InlineInterface}
use Rattle.wit_links.specs.declared.inside.Seen.{Seen}

-- the addresses of the worlds that are resolved
abbrev pub addresses_of : Resolved → List Address
addresses_of r = worlds_at (others_of r.interfaces.files) r.worlds

-- an include, wherever the worlds have their places
abbrev pub IsInclude : Resolved → List TopName → Include → WorldInclude → Type 0
IsInclude r top n i = (ws : List Address) → GivesPlaces (scope_place ws) (addresses_of r) → i ≡ include_in ws top n

-- the first fault of an include: its attributes, and then that its path leads to no world that is resolved
abbrev pub included_fault : Resolved → List TopName → Include → Option Fault
included_fault r top n = option_or (stability_fault n.attributes.items) (if is_none (world_at r.interfaces.files r.world_names (leads top n.from)) then Some (interface_there (path_id n.from)) else None)

-- of the includes of an item
abbrev pub includes_fault : Resolved → Item → Option Fault
includes_fault r i = first_in (included_fault r i.top) (includes i)

-- The place of the interface at an address: of a declared one that of its name, of another package's where it comes before the arena.
abbrev pub interface_place : List Address → Names → Address → Option ℕ
interface_place prefix by_name (InterfaceNamed name) = env_of by_name name
interface_place prefix by_name (ForeignNamed p name) = place_at prefix (ForeignNamed p name)
interface_place prefix by_name _ = None

-- the place of the interface that a path leads to
abbrev pub path_place : List PackageFile → Names → List TopName → UsePath → Option ℕ
path_place files by_name top path = interface_place (prefix_of files) by_name (path_scope top path)

-- a path leads to the interface at a place
abbrev pub IsLinkedTo : List PackageFile → Names → List TopName → UsePath → ℕ → Type 0
IsLinkedTo files by_name top path id = (is_world_at files (leads top path) ≡ Some false) × (path_place files by_name top path ≡ Some id)

-- the first fault of such a path: it leads to nothing or to a world, and then to an interface that is not resolved
abbrev pub linked_fault : List PackageFile → Names → List TopName → UsePath → Option Fault
linked_fault files by_name top path = option_or (path_fault files top path None) (unresolved_fault by_name (leads top path))

-- how many of the interfaces that are written on a side occurred
abbrev pub seen_on : WorldSide → Seen → ℕ
seen_on Imported m = m.imported
seen_on Exported m = m.exported

-- how many interfaces are written among these on each side, and how many functions are among them
pub record IsSeen (xs : List SideItem) (m : Seen) : Type 0 where
  pub inline : (side : WorldSide) → seen_on side m ≡ length (flat_map item_inline (items_on side xs))
  pub functions : m.functions ≡ length (flat_map item_function xs)

-- what an interface that is written in an item is on its side
abbrev pub inline_side : InlineInterface → SideItem
inline_side x = SideInline x.written.now x.name x.items.now
