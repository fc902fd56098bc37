-- The names that specs of this crate cite most, passed on from one place. Declares nothing.
pub use Rattle.wit_arena.specs.Common.{Address, AddsInterface, AddsScope, AddsSides, AddsWorld, Declared, EndsAt, Fault, Function, Id, Interface, InterfaceNamed, IsLegal, IsNameIndex, Item, Link, Makes, PackageFile, ParseError, Required, ResolvedScope, Row, ScopeName, SideFunction, SideInline, SideItem, SideLink, TypeDef, TypeOwner, UsePath, Word, World, WorldInclude, WorldNamed, WorldSide, about, address, declared_metadata, env_of, first_docs, flat_map, functions, headers, in_turn, includes, inline_after, interfaces_at, is_world, item_function, item_rows, items_on, last_header, local_id, names_on, option_map_or, option_or, package_of, part_items, rows_of, scope_names, shape_end, side_items, type_imports, world_part, worlds_at}
pub use Rattle.wit_entries.specs.EntryFaults.{IsExtended}
pub use Rattle.wit_signatures.specs.FunctionsOfScope.{name_of_id}
pub use Rattle.wit_externs.specs.Clash.{EndsIn, defined_fault, lone_setters, signed_by}
pub use Rattle.wit_items.specs.BorrowedItems.{item_view, others_of, scope_item, AreItemsOf, IsItemOf}
pub use Rattle.wit_items.specs.ItemPaths.{prefix_of}
pub use Rattle.wit_items.specs.ResolvedInterfaces.{resolved_scopes_of}
pub use Rattle.wit_items.specs.declared.interfaces.Interfaces.{Interfaces}
pub use Rattle.wit_items.specs.declared.items.Item.{Item as BorrowedItem}
pub use Rattle.wit_items.specs.declared.items.ItemScope.{ItemScope}
pub use Rattle.wit_world_sides.specs.Members.{entries_of, none_of}
pub use Rattle.wit_links.specs.Links.{linked_fault, path_place}
pub use Rattle.wit_item_entries.specs.Body.{AddsBody, HasTurn}
pub use Rattle.wit_item_entries.specs.AddedNames.{Appends}
pub use Rattle.wit_item_entries.specs.ReachedFaults.{EndsInTurn, item_stability, names_fault}
pub use Rattle.wit_item_entries.specs.declared.names.ResolvedNames.{ResolvedNames}
pub use Rattle.wit_links.specs.declared.resolved.Resolved.{Resolved}
pub use Rattle.wit_contents.specs.declared.making.Growing.{Growing}
