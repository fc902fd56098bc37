-- The names that proofs of this crate cite most, passed on from one place. Declares nothing.
pub use Rattle.wit_items.proofs.Common.{Address, AddsForeign, AddsFunctions, AddsInterface, AddsScope, AddsSides, AddsWorld, AliasForm, AllDiffer, AreDistinct, AreEnded, AreIncludes, AreItems, AreItemsOf, AreNames, AreNamesPlaced, AreOfSort, AreOwned, AreUsableUses, AreWorldsDone, AtCycle, AtForeign, AtMissing, AtResource, Attribute, Borrowed, Called, Contains-append_cases, Declared, Decls, Def, Defined, Defines, DefinitionPart, DoneScope, Elsewhere, EndIs, EndsAt, EntryEnd, Env, Err, Exported, Extern, ExternPart, Fault, Finds, Foreign, ForeignName, ForeignNamed, ForeignVisit, Form, Function, FunctionPart, HasItem, Id, IfOk-at_ok, Imported, InOrder, Include, IncludePart, Interface, InterfaceItem, InterfaceNamed, InterfacesDone, IsAllocationFailure, IsDeclared, IsErrAnd, IsForeignUse, IsFound, IsItemOf, IsItemPlaced, IsNameIndex, IsNoWorld, IsOrder, IsOther, IsOutcome, IsPlaced, IsResolvedUse, IsResource, IsUnknown, Key, Known, Link, Local, Name, Names, Occurrence, Ok, Outcome, PackageFile, PackageName, ParseError, Part, Reports, Required, ResolvedScope, ResourceForm, ResourceFunc, Result, Row, ScopeName, SideFunction, SideInline, SideItem, SideLink, Sorted, Source, SourceFunction, Target, TheInline, TheInterface, TheWorld, TopName, Turned, TypeBody, TypeDef, TypeOwner, UnknownForm, UseName, UsePart, UsePath, Used, UsedName, Word, World, WorldNamed, WorldSide, about, address, after-append, after_kept, all_declared, all_handles, all_items, all_name_occurrences, all_occurrences, all_scopes, all_uses_fault, and_parts, any-map, any_found, any_some, append-nil, are_interfaces, are_worlds, at_back, at_contains, at_part, at_prefix, at_seam, at_split, at_take, at_within, bytes_eq, called_fault, cases_Bool, cases_lt, clash, clash-made, clash-map, codes, collects_from, contains_at, contains_one, contents_fault, crossed, cyclic_at, declared_metadata, declared_view, decls, defined, definition_fault, definition_functions, differ_at, differ_by, distinct_items, earliest, end_fault, end_source-more, entry_end, env_of, eqb-suc-zero, eqb-true, err_from_is_err_and, external_fault, fault_in, filed_item, files_fault, filter, filter-append, filter_map-append, find_at, find_passes, find_some, finds_memory, finds_same, first_after, first_in, first_named, firsts_has, flat_map, flat_map-append, flat_map_at, flat_map_has, folded_fault, folded_key, foreign_at, foreign_entry, foreign_interfaces, foreign_items, foreign_use_key, foreign_uses, foreign_view, foreign_visits, foreign_worlds, found_end, found_none, found_put, found_wider, free_functions, function_fault, function_item, function_of, done_declared, functions, functions_imported, handle_fault, if◌then◌else◌, in-append, in-map, in-more, in_order, in_turn, in_turn_among, in_turn_distinct, include_fault, include_path, include_paths, includes, index_interface, index_prefix, index_world, inline_after, inline_after-append, inline_entry, inline_interface, inline_item, inline_items, inline_items_differ, inside_of, inside_view, interface_address, interface_at, interface_there, interfaces, interfaces_at, interfaces_at-append, interfaces_differ, interfaces_of, interfaces_on, interfaces_sort, is_ascii_uppercase, is_extern, is_foreign, is_inside, is_interface, is_none, is_on_side, is_same_link, is_world, is_world_at, item_at, item_called, item_function, item_in, item_inline, item_link, item_name, item_named, item_names_fault, item_rows, item_scopes, item_side, item_sorted, item_view, item_word, items_on, items_within, kept_all, kept_at, kept_early, kept_has, kept_next, kept_none, kept_past, kept_prefix, keys, kind_end, kind_of, leads, length-append, length-inline_after, length-map, link_fault, link_item, linked_twice, list_all, list_any, local_id, local_name, local_names, local_names_fault, lookup-place, lost_fault, lost_use, lost_word, map, map-append, map_at, map_map, meaning, member_fault, metadata_fault, missing_at, missing_type_at, name_called, name_equal, name_fault, name_itself, name_seen_in, name_twice, name_view, named_at, named_within, names_at_top, names_in, names_on, needed_before, nil_from_length, no_clashes, none_both, number_equal, on_ok_weaker, on_side, option_and_then, option_cases, option_map, option_map_or, option_or, option_to_list, or_assoc, or_none, or_none_both, order_fault, order_of, ordered_at, others_of, outcome_one, own_declared, own_fault, own_use, package_of, part_end, part_functions, part_includes, part_items, part_visited, parts, path_id, path_scope, paths_of_world, place_at, place_at-found, prefix_of, prefix_resolved_scope, prefix_scopes, prefix_wider, put_on, reached_fault, repeat-map, repeat_of, reports_back, reports_prefix, reports_same, resolved_scope, resolved_scope_at, resolved_scope_of, resolved_scopes, resolved_scopes-append, resolved_scopes_of, resource_function, role_side, rows_of, same_address, same_address-equal, same_address-from, same_foreign_use, same_side, scope, scope_at, scope_faults, scope_item, scope_names, scope_of, scopes_declared, scopes_inline, scopes_of, setters_fault, settled, shape_end, side_called, side_items, side_items_functions, side_setters_fault, side_sorted, signed_fault, slice_get, slice_get-get_or, slice_get-map, slice_get_read, slice_get_within, some_of, source_target, source_view, stability_fault, take-append-drop, take_all, take_next, take_seam, target_scope, top_at, tops_fault, type_imports, type_word, unresolved_fault, unstated, use_fault, use_of_foreign, use_of_foreign-equal, use_of_foreign-from, use_view, used, used_before, used_interface, used_listed, used_visited, uses_usable, uses_viewed, visited, visited_foreign, visits_differ, word_fault, world_address, world_at, world_entry, world_list, world_missing, world_part, world_there, worlds, worlds_at, worlds_at-append, worlds_of, worlds_sort, written_types, ◌&&◌, Extends, functions_parts, crossed_among, crossed_same, sides_sorted, sorted_name, functions_free, lost_listed, HasAmong, source_place, IsOccurrence, finds_back, inline_of, with_names}
pub use Rattle.wit_world_sides.specs.Members.{AreKeyed, Entry, Puts, entry_sorted, path_link, sorted_on, put_fault, put_link_fault}
pub use Rattle.wit_links.specs.Links.{IsLinkedTo, interface_place, linked_fault, path_place, addresses_of, included_fault, includes_fault, IsSeen, inline_side, seen_on}
pub use Rattle.wit_links.specs.declared.resolved.Resolved.{Resolved}
pub use Rattle.wit_item_entries.specs.AddedNames.{AddsTurn, IsTurn}
pub use Rattle.wit_item_entries.specs.ReachedFaults.{EndsInTurn, FindsNames, item_stability, names_fault, ordered_fault}
pub use Rattle.wit_contents.specs.Interfaces.{FindsInterface, IsLent, IsRightOf, interface_fault, names_of, rest_fault, AddsDeclared}
pub use Rattle.wit_contents.specs.Making.{IsIndexed, IsItemIn}
pub use Rattle.wit_contents.specs.declared.making.Growing.{Growing}
pub use Rattle.wit_contents.specs.declared.making.Making.{Making}
pub use Rattle.wit_contents.specs.Files.{IsRight, IsReady}
pub use Rattle.wit_contents.specs.Walk.{AreRightMembers, IsInsideNext, IsRightMember, AddsInside, AddsMembers, HavePlaces, IsNext, IsStart, IsWalk, ItemWalk, Stage, lead, next_place, puts_nothing, stage, walk_of}
pub use Rattle.wit_contents.specs.Worlds.{AddsDeclaredWorld, AddsTo, AddsNamesOf, FindsAfterNames, HasContent, IsRightOfWorld}
pub use Rattle.wit_items.specs.declared.interfaces.Interfaces.{Interfaces}
pub use Rattle.wit_items.specs.declared.items.Item.{Item}
pub use Rattle.wit_items.specs.declared.items.ItemScope.{ItemScope}
