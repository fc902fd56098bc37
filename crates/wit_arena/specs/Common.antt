-- The names that specs of the crates above cite most, passed on from one place. Declares nothing.
pub use Rattle.wit_arena.specs.Names.{Address, AllDiffer, AreDistinct, AstItem, Body, Case, Constructor, Declared, Defined, DefinitionPart, EndsAt, EnumCase, Exported, Extern, ExternPart, Fault, Field, Flag, Foreign, ForeignNamed, ForeignUse, ForeignVisit, Function, FunctionKey, FunctionPart, Global, Id, Imported, Include, IncludePart, Interface, InterfaceNamed, IsDocumentedTwice, IsLegal, IsOrder, IsOtherPackage, Item, Link, Local, Member, Metadata, Method, Of, OnSide, PackageFile, PackageName, Param, ParseError, Part, Prim, Role, Row, ScopeName, Shape, Shapes, SideFunction, SideInline, SideItem, SideLink, SourceFunction, SourceParam, Span, Stability, Static, Target, TheInline, TheInterface, TheWorld, TopName, TypeBody, TypeDef, TypeDefKind, TypeOwner, Type_, Unknown, UnresolvedPackage, UsePart, UsePath, Used, Word, World, WorldInclude, WorldItem, WorldKey, WorldNamed, WorldSide, about, address, all_handles, all_items, all_params, all_shapes, at_side, body_of, body_types, cyclic_at, declared_metadata, defined, extern_link, fault, fault_in, fault_of, filter, first_foreign_uses, firsts, flat_map, fold, foreign_at, foreign_interfaces, foreign_items, foreign_packages, foreign_visits, foreign_worlds, free_function, function_of, function_used, functions, handles, headers, in_order, in_turn, includes, inline_after, inline_items, inline_uses, insert_entry, interface_part, interface_there, interfaces_of, is_foreign, is_interface, is_world, is_world_at, item_function, item_inline, item_name, item_rows, item_side, item_word, items_on, keys_of, last_header, leads, linked_twice, list_any, local_id, local_name, local_names, lookup, meaning, metadata, missing_at, missing_type_at, name_twice, name_types, name_word, names_on, needed_ids, no_docs, no_resource, on_side, option_and_then, option_map, option_map_or, option_or, option_to_list, package_of, part_functions, part_items, part_names, path_id, path_scope, pointwise, resource_function, role_side, rows_of, same_address, same_foreign_use, same_item, same_package, same_side, scope_names, shape_end, shape_of, side_function, side_items, stability_of, top_names, type_word, unwrap_or, use_of_foreign, use_path, used, visited, world_part, worlds_of, written_types, «Type»}
pub use Rattle.wit_arena.specs.Kind.{EntryEnd, IsOther, IsResource, IsUnknown, entry_end, kind_of}
pub use Rattle.wit_arena.specs.Made.{Makes}
pub use Rattle.wit_arena.specs.Occurrences.{shape_occurrences, shapes_occurrences, stability_at}
pub use Rattle.wit_arena.specs.Resolving.{AddsForeign, AddsInterface, AddsScope, AddsSides, AddsWorld, interfaces_at, worlds_at, AddsFunctions, AreEnded, AreResolved, Defines, Env, HasNames, IsNameIndex, IsStored, IsUnnamedOf, Names, Required, ResolvedScope, env_of, free_functions, named, names_in, resolved_scopes}
pub use Rattle.wit_arena.specs.SourceFunctions.{link_item, put_on, settled}
pub use Rattle.wit_arena.specs.UnfoldedTypes.{At, IsBelow, function_types, functions_of}
pub use Rattle.wit_arena.specs.Whole.{dep, first_docs, foreign_entry, owner_at, place_at, type_imports}
