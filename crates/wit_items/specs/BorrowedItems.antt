-- Declared items that are borrowed with all their names, which are placed, and what is stated of them.
use Rattle.std.specs.Prelude.{◌≡◌, List, Some, Contains, map, slice_get, ℕ, All, None}
use Rattle.wit_arena.specs.Common.{Address, Declared, Item, PackageFile, ScopeName, TheInline, TheInterface, TheWorld, all_items, foreign_worlds, top_names, visited, Exported, Extern, Imported, Part, WorldSide, at_side, filter, flat_map, inline_uses, item_side, same_side, scope_names, Metadata}
use Rattle.wit_syntax.specs.Sides.{members}
use Rattle.wit_items.specs.declared.items.Declared.{Declared as BorrowedDeclared}
use Rattle.wit_items.specs.declared.items.Item.{Item as Borrowed}
use Rattle.wit_items.specs.declared.items.ItemScope.{ItemScope as BorrowedScope}
use Rattle.wit_items.specs.declared.items.InlineInterface.{InlineInterface}
use Rattle.wit_items.specs.declared.items.Scoped.{Scoped}
use Rattle.wit_scopes.specs.BorrowedNames.{name_view, Borrowed as BorrowedName, AreNamesPlaced}
use Rattle.wit_tree.specs.declared.tree.Use.{Use}
use Rattle.wit_items.specs.ItemPaths.{prefix_of, item_in}
use Rattle.wit_tree.specs.declared.tree.World.{World}
use Rattle.wit_items.specs.declared.items.WorldNames.{WorldNames}
use Rattle.wit_items.specs.declared.metadata.ItemMetadata.{ItemMetadata}
use Rattle.wit_items.specs.declared.items.Declared.TheVariants as borrowed_item

-- the interface or the world that is borrowed
abbrev pub declared_view : BorrowedDeclared → Declared
declared_view (borrowed_item.Interface i) = TheInterface i.now
declared_view (borrowed_item.World w) = TheWorld w.now
declared_view (borrowed_item.Inline i) = TheInline i.world.now i.place i.written.now i.name i.items.now

-- the item that is borrowed
abbrev pub item_view : Borrowed → Item
item_view i = record { top = top_names i.file.now; declared = declared_view i.declared }

-- the item whose names are lent
abbrev pub scope_item : BorrowedScope → Item
scope_item s = record { top = top_names s.file.now; declared = declared_view s.declared }

-- the addresses of other packages' worlds
abbrev pub others_of : List PackageFile → List Address
others_of files = map visited (foreign_worlds files)

-- the uses of the interface that is written in a part, if it is on a side
abbrev pub side_uses : WorldSide → Part → List Use
side_uses side part = at_side (λ (x : Extern). inline_uses x.kind) side part

-- an item with the names of its scope
abbrev pub with_names : Item → Item × List ScopeName
with_names i = (i, scope_names i)

-- the interfaces that are written on a side of an item, in source order
abbrev pub inline_on : WorldSide → Item → List Item
inline_on side i = flat_map (λ m. m.1) (filter (λ m. same_side side (item_side m.0)) (members i))

-- those that are borrowed
abbrev pub Inside : Type 0
Inside = Scoped InlineInterface BorrowedName

abbrev pub inside_of : WorldSide → Borrowed → List Inside
inside_of Imported i = i.imported.items
inside_of Exported i = i.exported.items

-- the item that an interface is which is written in another one
abbrev pub inline_of : Item → InlineInterface → Item
inline_of i x = record { top = i.top; declared = declared_view (borrowed_item.Inline x) }

abbrev pub inside_view : Item → Inside → Item × List ScopeName
inside_view i n = (inline_of i n.inline, map name_view n.names.items)

-- these are all that are written on a side of an item, with their names
abbrev pub AreInside : WorldSide → Item → List Inside → Type 0
AreInside side i ns = map (inside_view i) ns ≡ map with_names (inline_on side i)

-- the names of what is written in an item are placed
abbrev pub ArePlacedInside : List Address → List Inside → Type 0
ArePlacedInside prefix inside = All (λ n. AreNamesPlaced prefix n.names.items) inside

-- so are all of an item
pub record IsItemPlaced (prefix : List Address) (i : Borrowed) : Type 0 where
  pub own : AreNamesPlaced prefix i.names.items
  pub inside : (side : WorldSide) → ArePlacedInside prefix (inside_of side i)

-- an item that the file at its place declares, with its names and the interfaces that are written in it, with their names, which are placed
pub record IsItemOf (files : List PackageFile) (i : Borrowed) : Type 0 where
  pub file : slice_get files i.place ≡ Some i.file.now
  pub among : Contains (all_items files) (item_view i)
  pub named : map name_view i.names.items ≡ scope_names (item_view i)
  pub written : (side : WorldSide) → AreInside side (item_view i) (inside_of side i)
  pub placed : IsItemPlaced (prefix_of files) i

-- each of these is one
pub record AreItemsOf (files : List PackageFile) (items : List Borrowed) : Type 0 where
  pub each : (k : ℕ) (i : Borrowed) → slice_get items k ≡ Some i → IsItemOf files i

-- these are the names of a world of the file at a place, and of the interfaces that are written in it, and they are placed
pub record AreWorldNames (files : List PackageFile) (place : ℕ) (w : World) (n : WorldNames) : Type 0 where
  pub own : map name_view n.own.items ≡ scope_names (item_in files place (TheWorld w))
  pub imported : AreInside Imported (item_in files place (TheWorld w)) n.imported.items
  pub exported : AreInside Exported (item_in files place (TheWorld w)) n.exported.items
  pub own_placed : AreNamesPlaced (prefix_of files) n.own.items
  pub imported_placed : ArePlacedInside (prefix_of files) n.imported.items
  pub exported_placed : ArePlacedInside (prefix_of files) n.exported.items

-- an item has no name elsewhere
abbrev pub metadata_view : ItemMetadata → Metadata
metadata_view n = record { docs = n.docs; stability = n.stability; external_id = None }

-- the docs and the stability are those of these metadata
pub record AreOf (n : Metadata) (borrowed : ItemMetadata) : Type 0 where
  pub docs : borrowed.docs ≡ n.docs
  pub stability : borrowed.stability ≡ n.stability
