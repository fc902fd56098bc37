-- The names that proofs of the crates above cite most, passed on from one place. Declares nothing.
pub use Rattle.wit_arena.proofs.Names.{Address, AddsForeign, AddsFunctions, AddsInterface, AddsScope, AddsSides, AddsWorld, AliasForm, All, All-nil, All-push, All-same, AllDiffer, AllPairs, AllZip, AreAt, AreDistinct, AreEnded, AreFunctions, AreIncludes, AreKnown, AreMetadata, AreNames, AreOwn, AreOwned, AreRequired, AreResolved, AreShapes, AstItem, Async, At, AtForeign, AtResource, Attribute, AttributeKind, AttributedUse, Body, Borrow, BorrowForm, Both', Box, BrokenMetadata, BrokenTypes, Called, Case, Collects, Constructor, ConstructorOfOther, ConstructorWithoutResult, Contains, Contains-append_cases, Contains-append_left, Contains-push, CrossedTwice, Cyclic, CyclicItem, CyclicType, Decides-and, Decides-at, Decides-like, Declared, Decls, Def, Defined, DefinedTwice, Defines, DefinitionPart, DeprecatedAlone, Docs, DuplicateItem, DuplicateParam, DuplicateTopName, Elsewhere, End, EndsAt, EntryEnd, EnumCase, Env, Err, Err', Exported, Expr, Exprs, Extends, Extern, ExternKind, ExternPart, ExternalId, Fault, Field, FixedLengthListForm, Flag, FoldedTwice, Foreign, ForeignName, ForeignNamed, ForeignStability, ForeignUse, ForeignVisit, Form, Freestanding, Func, FuncForm, Function, FunctionKey, FunctionKind, FunctionPart, FutureForm, Getter, GetterGiven, GetterWithoutResult, GivesPlaces, Global, Handle, HandleRequires, HasArena, HasMark, HasMarkOf, HasNames, HasNot, Head, Headerless, Id, IfErr, IfOk, IfOk-at_ok, IfOk-weaker, IfSome, Imported, Include, IncludePart, IncludeStability, InlineAt, Inside, Interface, InterfaceIncluded, InterfaceItem, InterfaceMetadata, InterfaceNamed, IsAdded, IsAllocationFailure, IsAnonymousForm, IsAscii, IsAt, IsBackward, IsBefore, IsBelow, IsBroken, IsBrokenBody, IsBrokenFunction, IsBrokenMetadata, IsBrokenNames, IsBrokenScope, IsBrokenSides, IsBrokenStability, IsBrokenType, IsBrokenUse, IsCharBoundary, IsCharBoundary-from_ascii, IsCrossedTwice, IsCyclic, IsCyclicEdge, IsDependencyFirst, IsDocumented, IsDocumentedTwice, IsDuplicateName, IsEdge, IsEntered, IsEntry, IsEntryOf, IsErrAnd, IsFaithful, IsFoldedTwice, IsGreedy, IsInterned, IsKeyed, IsLegal, IsLinkedTwice, IsMadeOf, IsMismatch, IsMissing, IsMissingEdge, IsNameIndex, IsOccurrence, IsOrder, IsOther, IsOtherPackage, IsPermutation-refl, IsRepeatAt, IsResource, IsSamePackage, IsSecond, IsSecondDocs, IsSeen, IsSetterAlone, IsStored, IsTrue, IsUnknown, IsUnnamedOf, IsUtf8-from_ascii, IsValid, IsWritten, IsWrittenAs, IsWrongTop, Item, ItemNotFound, ItemStability, Items, Itself, Key, Leads, Leaf, Link, LinkedTwice, List, ListForm, Local, LostUse, Makes, MapForm, MatchBool, MatchBool-at_true, MatchOrdering, Member, Metadata, Method, Missing, MissingInSignature, MissingItem, MissingName, MissingType, MissingUse, More, Named, NamedFunc, Names, Neither, NestedPackage, None', Occurrence, Of, OfNothing, Ok, Ok', OnErr, OnOk, OnSide, OneByOne, Option, OptionForm, OutOfMemory, PackageFile, PackageName, Param, ParseError, ParseErrorKind, Part, Plain, Prim, Primitive, ReachesCycle, Record, RecordForm, Refused, Release, Required, ResolvedScope, Resource, ResourceForm, ResourceFunc, Result, ResultForm, Role, Row, Row_of-Type, Scope, ScopeName, Setter, SetterGiven, SetterWithResult, Shape, Shapes, SideFunction, SideInline, SideItem, SideLink, Sides, SinceAndUnstable, SinceTwice, Some', SourceFile, SourceFunction, SourceParam, Span, Stability, Stable, Static, StreamForm, String, Syntax, Target, TheInline, TheInterface, TheWorld, TopName, TopUse, ToplevelUse, Tree, Tuple, Turned, TypeBody, TypeCycle, TypeDef, TypeDefKind, TypeOwner, Type_, Unknown, UnknownForm, Unnamed, UnresolvedPackage, Use, UseMetadata, UseName, UsePart, UsePath, Used, Variant, Vec, Version, Whole, Word, World, WorldInclude, WorldItem, WorldKey, WorldNamed, WorldSide, WorldUsed, about, about_name, accessor, address, after_one, all_declared, all_function_occurrences, all_handles, all_items, all_occurrences, all_params, all_scopes, all_seen, all_shapes, all_types, all_words, and_from, and_parts, any_found, any_passes_from_place, append-nil, as_stated, at_back, at_contains, at_either, at_part, at_prefix, at_seam, at_side, at_split, at_take, at_within, attribute_text, attribute_version, body_of, body_ok, body_types, both_ways, boxed_types, by_name, bytes_eq, called_key, case_types, cases_Bool, cases_lt, chars-IsAscii, clash, codes, cond, cond-false, cond-true, cons_option, contains_at, cyclic_at, declaration_visits, declarations, declared_items, declared_metadata, defined, defined_twice, definition_functions, dep, dep_item, deprecation, differ_at, differ_by, differ_head, differ_more, differ_none, differ_tail, distinct_names, docs_of, docs_text, drop_trailing_whitespace, early, either_at, encode_utf8_all, end_of-Type, entries_on, entries_walked, entry, entry_end, env_of, eq-eqb, eq-value, eqb-suc-zero, eqb-true, err_from_is_err_and, expr_of, exprs_of, extern_at, extern_functions, extern_items, extern_link, extern_paths, extern_visits, false_from_ne_true, false≢true, fault, fault_in, fault_of, field_types, file_declarations, file_items, filter, filter-append, filter_map, filter_map-append, filter_map_more, find, find-append, find-only, find_among, find_at, find_passes, find_some, first_docs, first_foreign_uses, first_known, first_named, first_of, firsts, firsts-more, firsts_at, firsts_differ, firsts_has, flat_map, flat_map-append, flat_map-flat_map, flat_map-map, flat_map_at, flat_map_has, folded_key, foreign_at, foreign_entry, foreign_interface, foreign_interfaces, foreign_items, foreign_packages, foreign_type, foreign_use_occurrence, foreign_uses, foreign_visits, foreign_world, foreign_worlds, found_end, fragments, free_function, free_functions, freestanding_names, fresh_row, function_as_type, function_in, function_item, function_key, function_name, function_of, function_types, function_used, functions, functions_at, functions_imported, functions_of, functions_parts, get_or, get_or_from_slice_get, getter_of, greedy_least, greedy_nil, greedy_push, greedy_sorted, handled_of, handles, head, headers, if◌then◌else◌, import_types, in_order, in_order-append, in_order-more, in_order_among, in_order_at, in_turn, in_turn_among, in_turn_distinct, in_turn_has, include_in, include_path, include_paths, includes, inline_after, inline_after-append, inline_entry, inline_inside, inline_interface, inline_item, inline_items, inline_items_at, inline_items_differ, inline_owner, inline_part_uses, inline_uses, insert_entry, insert_entry-new, insert_key, inserted_next, interface, interface_attributes, interface_functions, interface_imported, interface_part, interface_scopes, interface_there, interface_turn, interfaces_at, interfaces_of, interfaces_on, interfaces_on-append, into_iter_items, is_ascii_alphabetic, is_ascii_alphanumeric, is_ascii_uppercase, is_defined, is_dotted, is_eq, is_foreign, is_fragment, is_getter_of, is_inside, is_interface, is_label, is_lt, is_mangled, is_name, is_none, is_of, is_setter, is_some, is_some-lookup, is_world, is_world_at, item_at, item_called, item_foreign_uses, item_function, item_functions, item_inline, item_link, item_name, item_named, item_row, item_rows, item_side, item_turns, item_types, item_word, items_on, kept_all, kept_at, kept_differ, kept_early, kept_has, kept_next, kept_none, kept_past, key_at, keyed, keys, keys-insert_entry, keys_of, kind_end, kind_of, kind_text, kinds_of, last_header, last_header-append, leads, length, length-append, length-inline_after, length-map, length-take-le, link_item, link_key, linked_twice, list_all, list_all-append, list_all_at, list_any, list_any-append, local_id, local_name, local_names, lone_setter, lookup, lookup-insert_entry, lookup-place, lower_case, ltb-false, ltb-true, map, map-append, map_at, map_map, mark_of, meaning, meant_ok, member, metadata, mismatch, missing_at, missing_type_at, more_of-Type, name_called, name_cases, name_equal, name_exprs, name_imports, name_itself, name_occurrences, name_places, name_twice, name_types, name_word, named, named_found, named_interface, named_world, names-insert_entry, names_in, names_in_turn, names_of, names_on, names_within, nat_cmp, nat_eq, nat_lt, ne_eqb, needed_ids, nil_from_length, no_crossed, no_cyclic_edge, no_docs, no_fold, no_missing_edge, no_repeat, not-false, not-true, not_both, number_equal, ok_type, on_ok_weaker, on_side, one, one_answer, option_and_then, option_and_then_some, option_copied, option_eq, option_map, option_map_or, option_or, option_to_list, or_left, or_parts, or_right, others, own_greedy, own_interface, own_interfaces, own_uses, own_world, owner_at, owner_of, package_of, package_tree, package_words, pairs, param_twice, part_end, part_functions, part_includes, part_items, part_names, part_of_function, part_types, part_uses, part_visits, parts, parts_of, passes, path_id, path_scope, path_visits, place_at, place_of, place_of-Some, placed, placed_functions, places_to, pointwise, position, position-Some, position_or_len, prefix_len, put_on, rank, ranks_by, read_map, refused_weaker, release_of, renamed, resolved_scope, resolved_scope_at, resolved_scopes, resource_function, resource_items, rest_after, result_ok, result_types, role_kind, role_names, role_side, row_handles, row_of, rows, rows_more, rows_of, same_Some, same_address, same_address-equal, same_address-from, same_address-itself, same_edges, same_foreign_use, same_item, same_package, same_package-equal, same_package-from, same_package-itself, same_side, same_side-equal, scope, scope_item_at, scope_names, scope_place, scopes_declared, scopes_either, scopes_inline, seen, self_param, set_value_at, setters_placed, settled, shape_end, shape_occurrences, shape_of, shapes_occurrences, side_called, side_entries, side_function, side_items, side_items_functions, side_itself, side_word, signature, slice_cmp, slice_get, slice_get-get_or, slice_get-map, slice_get-take, slice_get_past, slice_get_read, slice_get_within, slice_index, slice_index_or, slice_range, slice_set, slots, some_of, sorted_far, source_tree, span_of, span_of_ends, stability_at, stability_by, stability_of, starts_with_letter, stated_text, stated_version, string_bytes, take, take-append-drop, take-append_seam, take-map, take_all, take_more, take_next, take_seam, target, target_scope, three_ways, ties, top_names, top_text, top_twice, tuple_types, turn_handles, turn_occurrences, turns_of_world, turns_on_sides, turns_walked, type_imports, type_of, type_word, types_of, types_of_borrowed, unbroken_metadata, unnamed, unwrap_or, use_foreign_uses, use_of_foreign, use_path, use_paths, used, used_has, used_is, used_names, uses, visited, walk, walked_entries, walked_turns, with_setters, words, words_of, world, world_entries, world_functions, world_interfaces, world_part, world_scopes, world_there, world_types, worlds_at, worlds_of, written_param, written_types, «Type», ∥∥₁_elim, ∥∥₁_map, ⊤, ◌&&◌, ◌==◌, ◌||◌, ◌≢◌}
pub use Rattle.wit_arena.proofs.DoneWorlds.{InterfacesDone, all_addresses, decls, item_declared, next_interface, next_world, prefix_apart, resolved_scopes_among, world_item_declared, world_list, AreWorldsDone, own_types, scopes_of}
pub use Rattle.wit_arena.proofs.Resolving.{function_one, functions_append, shapes_append, DoneScope, IsDoneScope, IsInSignatureOf, IsNameOf, IsPresent, IsWholeOf, done_address, resolved_scope_of, turn_of, resolved_none}
pub use Rattle.wit_arena.proofs.PackageIfDone.{HasSides, IsResolvedInterface, NamesOthers}
pub use Rattle.wit_arena.proofs.DefinitionPart.{IsFound, defines_more, defines_none, defines_one, name_seen_in, used_adds}
pub use Rattle.wit_arena.proofs.Visits.{entry_of_interface, entry_of_world, foreign_interface-none, foreign_interface_owner, foreign_world_owner, item_sort, AreUsableUses, IsVisited, foreign_at-visited, interfaces_differ, leads_visited, part_use_at, path_among, path_visited, side_has, visit_listed, visited_foreign, visits_differ}
pub use Rattle.wit_arena.proofs.DoneNames.{done_declared}
pub use Rattle.wit_arena.proofs.Ends.{EndIs, IsDeclared, end_source-more, entry_end-same}
pub use Rattle.wit_arena.proofs.ForeignUses.{IsUsedAt, foreign_use_key, foreign_uses_differ, foreign_uses_seen, in_use_has, keys-foreign_uses, use_of_foreign-equal, use_of_foreign-from, used_at, used_from, used_name_at, IsForeignUse, kept_prefix, named_at, needed_before, option_cases, paths_of_world, used_before, used_interface}
pub use Rattle.wit_arena.proofs.FunctionNames.{made_name, names_distinct}
pub use Rattle.wit_arena.proofs.Indexing.{index_interface, index_prefix, index_world, interfaces_at-append, prefix_resolved_scope, resolved_scopes-append, worlds_at-append}
pub use Rattle.wit_arena.proofs.Interfaces.{AreAddresses, AreItems, AreOfSort, declared_called, inline_scopes, interface_address, interface_owner_at, interfaces_sort, item_scopes, items_kept, own_declared, own_interface_address, place_at-found, scope_of, world_address, world_owner_at, worlds_sort}
pub use Rattle.wit_arena.proofs.Itemizing.{are_items, item_index, items_within, own_names}
pub use Rattle.wit_arena.proofs.KnownItems.{IsItem, functions_apart, functions_are, scope_is, turn_is}
pub use Rattle.wit_arena.proofs.LegalScopes.{all_differ, distinct_items, names_differ, scope_among, scope_differs, uses_lead}
pub use Rattle.wit_arena.proofs.Occurrence.{Has, collects_extended, collects_from, collects_one, collects_split, has_either, has_from, keys-append, occurrence_more}
pub use Rattle.wit_arena.proofs.OneMade.{one_made}
pub use Rattle.wit_arena.proofs.Ordered.{Ordered, all_turns, ordered_names, turned, item_order, item_turn, world_turns}
pub use Rattle.wit_arena.proofs.OrderedItems.{IsResolvedUse, are_interfaces, are_worlds, interface_at, interfaces, unstated, worlds}
pub use Rattle.wit_arena.proofs.OneKind.{all_at_untaken, key_extended, same_some}
pub use Rattle.wit_arena.proofs.Placing.{at-type_of, gives_places, gives_used}
pub use Rattle.wit_arena.proofs.PlacingFunctions.{HasTypes, IsForeignInterface}
pub use Rattle.wit_arena.proofs.Prefix.{interface_in_front, interface_scope, interfaces_count, no_functions, prefix_interface_done, prefix_scopes, prefix_world_done, used_listed, world_scope, worlds_count}
pub use Rattle.wit_arena.proofs.Required.{ended_append, ended_more, required_more, required_none, zip_both}
pub use Rattle.wit_arena.proofs.SameKeys.{same_key, same_key_determines}
pub use Rattle.wit_arena.proofs.ScopesInTurn.{entry_of_item, laid_scope, none_is_next, ordered_at, scope_at}
pub use Rattle.wit_arena.proofs.Scoping.{names_kept, names_more, names_none, needed_earlier, row_before}
pub use Rattle.wit_arena.proofs.Settled.{settled_at, settled_none, settled_types, types_stated}
pub use Rattle.wit_arena.proofs.Turns.{all_name_occurrences, foreign_turned, freestanding_kind, function_turn, item_of, method_kind, names_turn, occurrences, parts_occurrences, static_kind}
pub use Rattle.wit_arena.proofs.UsePart.{listed_has, lookup-listed}
pub use Rattle.wit_arena.proofs.Sided.{IsNoHandle, all_handles-append, all_words-append, handles-parts, result_shape, tuple_inner, words-head}
pub use Rattle.wit_arena.proofs.MadeSides.{AreSideItems}
