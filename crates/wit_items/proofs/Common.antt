-- The names that proofs of the crates above cite most, passed on from one place. Declares nothing.
pub use Rattle.wit_arena.proofs.Common.{Address, AddsForeign, AddsFunctions, AddsInterface, AddsScope, AddsSides, AddsWorld, AliasForm, All, AllDiffer, AllZip, AreAddresses, AreAt, AreDistinct, AreEnded, AreFunctions, AreIncludes, AreItems, AreKnown, AreNames, AreOfSort, AreOwned, AreRequired, AreSideItems, AreUsableUses, AreWorldsDone, AstItem, AtForeign, AtResource, Attribute, Called, Collects, Constructor, Contains, Contains-append_cases, Contains-append_left, Contains-push, Declared, Decls, Def, Defined, Defines, DefinitionPart, Docs, DoneScope, Elsewhere, End, EndIs, EndsAt, EntryEnd, Env, Err, Exported, Expr, Exprs, Extends, Extern, ExternKind, ExternPart, Fault, Foreign, ForeignName, ForeignNamed, ForeignUse, ForeignVisit, Form, Freestanding, FuncForm, Function, FunctionKey, FunctionKind, FunctionPart, GivesPlaces, Global, HandleRequires, Has, HasArena, HasMark, HasMarkOf, HasNames, HasSides, HasTypes, Id, IfErr, IfOk, IfOk-at_ok, IfOk-weaker, Imported, Include, IncludePart, InlineAt, Interface, InterfaceIncluded, InterfaceItem, InterfaceNamed, InterfacesDone, IsAllocationFailure, IsAt, IsBelow, IsBroken, IsBrokenNames, IsCharBoundary, IsDeclared, IsDocumentedTwice, IsDoneScope, IsEntered, IsEntry, IsEntryOf, IsErrAnd, IsFaithful, IsForeignInterface, IsForeignUse, IsFound, IsInSignatureOf, IsItem, IsKeyed, IsLegal, IsMadeOf, IsMismatch, IsNameIndex, IsNameOf, IsOccurrence, IsOrder, IsOther, IsOtherPackage, IsPresent, IsResolvedInterface, IsResolvedUse, IsResource, IsSamePackage, IsSeen, IsStored, IsUnknown, IsVisited, IsWholeOf, ItemNotFound, Key, Link, List, Local, Makes, MatchBool, Metadata, Method, MissingInSignature, MissingName, MissingUse, More, Names, NestedPackage, Occurrence, Of, OfNothing, Ok, OnOk, OnSide, OneByOne, Ordered, OutOfMemory, PackageFile, PackageName, Param, ParseError, ParseErrorKind, Part, Plain, Prim, Record, Refused, Release, Required, ResolvedScope, ResourceForm, ResourceFunc, Result, Role, Row, Scope, ScopeName, Shape, Shapes, SideFunction, SideInline, SideItem, SideLink, SourceFile, SourceFunction, SourceParam, Span, Stability, Static, Syntax, Target, TheInline, TheInterface, TheWorld, TopName, Turned, TypeBody, TypeCycle, TypeDef, TypeOwner, Type_, Unknown, UnknownForm, UnresolvedPackage, Use, UseName, UsePart, UsePath, Used, Variant, Vec, Version, Whole, Word, World, WorldInclude, WorldItem, WorldKey, WorldNamed, WorldSide, WorldUsed, about, about_name, accessor, address, after_one, all_addresses, all_at_untaken, all_declared, all_function_occurrences, all_handles, all_handles-append, all_items, all_name_occurrences, all_occurrences, all_params, all_scopes, all_seen, all_shapes, all_turns, all_words, and_parts, any_found, any_passes_from_place, append-nil, are_interfaces, are_items, are_worlds, as_stated, at-type_of, at_back, at_contains, at_either, at_part, at_prefix, at_seam, at_side, at_split, at_take, at_within, body_of, body_ok, body_types, both_ways, by_name, bytes_eq, called_key, cases_Bool, cases_lt, clash, codes, collects_extended, collects_from, collects_one, collects_split, cond-false, cond-true, cons_option, contains_at, cyclic_at, declarations, declared_called, declared_metadata, decls, defined, defined_twice, defines_more, defines_none, definition_functions, dep, dep_item, differ_at, differ_by, differ_more, differ_none, distinct_items, distinct_names, done_address, early, end_source-more, ended_append, ended_more, entries_on, entries_walked, entry_end, entry_of_interface, entry_of_item, entry_of_world, env_of, eqb-suc-zero, eqb-true, err_from_is_err_and, expr_of, exprs_of, extern_at, extern_functions, extern_items, extern_link, extern_paths, extern_visits, false_from_ne_true, false≢true, fault, fault_in, fault_of, file_declarations, filter, filter-append, filter_map, filter_map-append, find-append, find_at, find_passes, find_some, first_foreign_uses, first_known, first_named, firsts, firsts-more, firsts_at, firsts_has, flat_map, flat_map-append, flat_map-flat_map, flat_map-map, flat_map_at, flat_map_has, folded_key, foreign_at, foreign_at-visited, foreign_entry, foreign_interface, foreign_interface-none, foreign_interface_owner, foreign_interfaces, foreign_items, foreign_packages, foreign_turned, foreign_use_key, foreign_use_occurrence, foreign_uses, foreign_uses_differ, foreign_uses_seen, foreign_visits, foreign_world, foreign_world_owner, foreign_worlds, found_end, free_function, free_functions, freestanding_kind, freestanding_names, function_as_type, function_in, function_item, function_key, function_name, function_of, done_declared, function_turn, function_types, function_used, functions, functions_apart, functions_are, functions_at, functions_imported, functions_of, functions_parts, get_or, get_or_from_slice_get, gives_places, gives_used, has_either, has_from, headers, if◌then◌else◌, import_types, in_order, in_order_at, in_turn, in_turn_among, in_turn_distinct, in_turn_has, in_use_has, include_in, include_path, include_paths, includes, index_interface, index_prefix, index_world, inline_after, inline_after-append, inline_entry, inline_inside, inline_interface, inline_item, inline_items, inline_items_at, inline_items_differ, inline_owner, inline_scopes, inline_uses, insert_entry, insert_key, inserted_next, interface_address, interface_at, interface_functions, interface_imported, interface_owner_at, interface_part, interface_scope, interface_scopes, interface_there, interface_turn, interfaces, interfaces_at, interfaces_at-append, interfaces_differ, interfaces_of, interfaces_on, interfaces_on-append, interfaces_sort, into_iter_items, is_ascii_uppercase, is_defined, is_foreign, is_getter_of, is_inside, is_interface, is_label, is_lt, is_none, is_some, is_some-lookup, is_world, is_world_at, item_at, item_called, item_declared, item_foreign_uses, item_function, item_functions, item_index, item_inline, item_link, item_name, item_named, item_of, item_rows, item_scopes, item_side, item_sort, item_turns, item_word, items_kept, items_on, items_within, kept_all, kept_at, kept_early, kept_has, kept_next, kept_none, kept_past, kept_prefix, key_extended, keyed, keys, keys-append, keys-foreign_uses, keys-insert_entry, keys_of, kind_end, kind_of, kind_text, laid_scope, last_header, last_header-append, leads, length, length-append, length-inline_after, length-map, link_item, link_key, linked_twice, list_all, list_any, list_any-append, listed_has, local_id, local_name, local_names, lookup, lookup-insert_entry, lookup-listed, lookup-place, lower_case, made_name, map, map-append, map_at, map_map, mark_of, meaning, meant_ok, metadata, method_kind, mismatch, missing_at, missing_type_at, name_called, name_cases, name_equal, name_exprs, name_imports, name_itself, name_occurrences, name_places, name_seen_in, name_twice, name_types, name_word, named, named_at, named_found, named_interface, named_world, names-insert_entry, names_differ, names_distinct, names_in, names_in_turn, names_kept, names_more, names_none, names_of, names_on, names_turn, names_within, nat_cmp, nat_eq, needed_before, needed_ids, next_interface, next_world, nil_from_length, no_docs, no_functions, none_is_next, not-false, not-true, not_both, number_equal, occurrences, on_ok_weaker, on_side, one_made, option_and_then, option_cases, option_copied, option_map, option_map_or, option_or, option_to_list, or_left, or_right, ordered_at, ordered_names, others, own_declared, own_interface, own_interface_address, own_interfaces, own_names, own_types, own_world, owner_at, owner_of, package_of, package_words, pairs, part_end, part_functions, part_includes, part_items, part_names, part_of_function, part_visits, parts, parts_occurrences, parts_of, path_among, path_id, path_scope, path_visited, path_visits, paths_of_world, place_at, place_at-found, place_of-Some, placed, pointwise, position-Some, position_or_len, prefix_apart, prefix_interface_done, prefix_resolved_scope, prefix_scopes, prefix_world_done, put_on, ranks_by, read_map, refused_weaker, release_of, renamed, resolved_scope, resolved_scope_at, resolved_scope_of, resolved_scopes, resolved_scopes-append, resolved_scopes_among, resource_function, resource_items, role_kind, role_names, role_side, row_before, row_of, rows_of, same_address, same_address-equal, same_address-from, same_address-itself, same_foreign_use, same_item, same_package, same_package-equal, same_package-from, same_side, same_side-equal, same_some, scope, scope_among, scope_at, scope_is, scope_item_at, scope_names, scope_of, scope_place, scopes_declared, scopes_inline, scopes_of, seen, setters_placed, settled, settled_at, settled_none, settled_types, shape_end, shape_occurrences, shape_of, shapes_occurrences, side_called, side_entries, side_has, side_items, side_items_functions, side_itself, signature, slice_cmp, slice_get, slice_get-get_or, slice_get-map, slice_get_read, slice_get_within, slice_range, slice_set, some_of, sorted_far, span_of, span_of_ends, stability_at, stability_of, static_kind, take, take-append-drop, take-map, take_all, take_more, take_next, take_seam, target, target_scope, three_ways, ties, turn_handles, turn_is, turn_occurrences, turn_of, turned, turns_of_world, turns_on_sides, turns_walked, type_imports, type_of, type_word, types_of, unstated, unwrap_or, use_foreign_uses, use_of_foreign, use_of_foreign-equal, use_of_foreign-from, use_path, use_paths, used, used_at, used_before, used_from, used_has, used_interface, used_is, used_listed, used_name_at, uses_lead, visit_listed, visited, visited_foreign, visits_differ, walk, walked_entries, walked_turns, with_setters, words, words-head, world_address, world_entries, world_functions, world_interfaces, world_item_declared, world_list, world_owner_at, world_part, world_scope, world_scopes, world_there, world_types, worlds, worlds_at, worlds_at-append, worlds_of, worlds_sort, written_types, «Type», ◌&&◌}
pub use Rattle.wit_walk.proofs.Common.{Agrees, AtCycle, AtMissing, ComesTo, Finds, FindsBy, InOrder, IsFaultless, IsFirst, IsOr, IsOutcome, Known, Outcome, Reports, Sorted, after-append, after-at, after-next, after_kept, after_only, after_some, all_uses_fault, any-map, any_some, called_fault, clash-made, clash-map, contents_fault, crossed, definition_fault, earliest, end_fault, external_fault, faultless, files_fault, finds_back, finds_memory, finds_same, first_after, first_fault, first_in, folded_fault, function_fault, handle_fault, have_docs, in-all, in-append, in-at, in-following, in-map, in-more, in-parts, in_agrees, include_fault, interface_fault, is_documented, is_extern, is_on_side, is_same_link, item_names_fault, item_sorted, legal, link_fault, linked_fault, list_fault, local_names_differ, local_names_fault, lost_fault, lost_use, lost_word, member_fault, metadata_fault, name_fault, nesting_fault, no_clashes, none_both, one_first, or_assoc, or_none, or_none_both, or_some, order_fault, order_of, ordered_fault, other_fault, outcome_one, own_fault, push_fault, reached_fault, refused_by, repeat-map, repeat_of, reports-after, reports-in, reports_back, reports_prefix, reports_same, scope_faults, second_docs_fault, setters_fault, side_setters_fault, side_sorted, signed_fault, stability_fault, tops_fault, type_fault, type_kept, use_fault, word_fault, crossed_among, crossed_same, functions_free, lost_listed, sides_sorted, sorted_name}
pub use Rattle.wit_refusals.specs.NameScopes.{Name}
pub use Rattle.wit_files.specs.FileNames.{names_at_top, top_at}
pub use Rattle.wit_files.specs.ForeignPaths.{foreign_view}
pub use Rattle.wit_scopes.proofs.Placed.{uses_viewed}
pub use Rattle.wit_scopes.specs.BorrowedNames.{Borrowed, IsPlaced, definition_view, name_view, own_use, source_view, use_view, AreNamesPlaced, IsNamePlaced}
pub use Rattle.wit_scopes.specs.declared.scope_name.Source.{Source}
pub use Rattle.wit_scopes.specs.declared.scope_name.UsedName.{UsedName}
pub use Rattle.wit_items.proofs.Documented.{docs_agree, headers-append}
pub use Rattle.wit_items.proofs.Found.{found_none, found_put, found_resolved_scope, found_wider, named_within, prefix_wider, source_within, worlds_found}
pub use Rattle.wit_items.proofs.Others.{IsNoWorld, part_visited, used_visited, world_found, world_missing}
pub use Rattle.wit_items.proofs.Written.{filed_item, uses_usable, wanted_usable, contains_one, parts_more}
pub use Rattle.wit_items.specs.BorrowedItems.{declared_view, item_view, others_of, scope_item, AreItemsOf, IsItemOf, inline_of, inline_on, inside_of, inside_view, side_uses, with_names, ArePlacedInside, IsItemPlaced}
pub use Rattle.wit_items.specs.ItemPaths.{prefix_of, AreFound, HasItem, entry_at, item_in, source_target, world_at, world_entry, HasAmong}
pub use Rattle.wit_items.specs.ResolvedInterfaces.{resolved_scopes_of, source_place, unresolved_fault}
