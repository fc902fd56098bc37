-- The names that proofs of this crate cite most, passed on from one place. Declares nothing.
pub use Rattle.wit_syntax.proofs.Common.{Address, AliasForm, All, All-cons, All-head, All-nil, All-push, All-same, All-tail, AllByRecursion, AllDiffer, AllPairs, AllZip, AreAlike, AreDeclared, AreDistinct, AreMetadata, AreOwn, AreTwins, Async, AtForeign, AtResource, Attribute, AttributeKind, AttributedUse, Body, Borrow, BorrowForm, Both', Box, BrokenMetadata, BrokenTypes, Called, Case, Constructor, ConstructorOfOther, ConstructorWithoutResult, Contains, Contains-append_cases, Contains-append_left, Contains-push, CrossedTwice, Cyclic, CyclicItem, CyclicType, Decides-and, Decides-at, Decides-eqb, Decides-like, Declared, Defined, DefinedTwice, DefinitionPart, DeprecatedAlone, Docs, DuplicateItem, DuplicateParam, DuplicateTopName, Elsewhere, EndsAt, EnumCase, EnumForm, Err, Err', Exported, Extern, ExternKind, ExternPart, ExternalId, Fault, Field, FixedLengthListForm, Flag, FlagsForm, FoldedTwice, Foreign, ForeignName, ForeignNamed, ForeignStability, ForeignUse, ForeignVisit, Form, Freestanding, Func, FuncForm, FunctionKey, FunctionPart, FutureForm, Getter, GetterGiven, GetterWithoutResult, Global, Handle, HasNot, Head, Headerless, Id, IfErr, IfOk, IfOk-at_ok, IfOk-weaker, IfSome, Imported, Include, IncludePart, IncludeStability, InlineAt, Inside, InterfaceIncluded, InterfaceItem, InterfaceMetadata, InterfaceNamed, IsAllocationFailure, IsAscii, IsBackward, IsBefore, IsBroken, IsBrokenBody, IsBrokenFunction, IsBrokenMetadata, IsBrokenNames, IsBrokenScope, IsBrokenSides, IsBrokenStability, IsBrokenType, IsBrokenUse, IsCharBoundary, IsCharBoundary-from_ascii, IsCrossedTwice, IsCyclic, IsCyclicEdge, IsDependencyFirst, IsDocumented, IsDocumentedTwice, IsDuplicateName, IsEdge, IsEntered, IsErrAnd, IsFoldedTwice, IsGreedy, IsJoined, IsLegal, IsLinkedTwice, IsMismatch, IsMissing, IsMissingEdge, IsOrder, IsOtherPackage, IsPermutation-refl, IsRepeatAt, IsSamePackage, IsSecond, IsSecondDocs, IsSetterAlone, IsSome, IsTrue, IsUtf8-from_ascii, IsValid, IsWritten, IsWrittenAs, IsWrongTop, Item, ItemNotFound, ItemStability, Items, Itself, Leads, Leaf, Link, LinkedTwice, List, ListForm, Local, LostUse, MapForm, MatchBool, MatchBool-at_true, MatchOrdering, Member, Metadata, Method, Missing, MissingInSignature, MissingItem, MissingName, MissingType, MissingUse, Named, NamedFunc, Neither, NestedPackage, None', Nothing, OfNothing, Ok, Ok', OnErr, OnOk, OnSide, Option, OptionForm, OutOfMemory, Own, OwnForm, PackageFile, PackageName, ParseError, ParseErrorKind, Part, Place, Plain, Primitive, ReachesCycle, Record, RecordForm, Refused, Release, Resource, ResourceForm, ResourceFunc, Result, ResultForm, ResultTypes, Role, Row, Row_of-Type, Scope, ScopeName, Setter, SetterGiven, SetterWithResult, Shape, Shapes, SideFunction, SideInline, SideItem, SideLink, Sides, SinceAndUnstable, SinceTwice, Some', SourceFile, SourceFunction, SourceParam, Span, Stability, Stable, Static, StreamForm, String, Syntax, Target, TheInline, TheInterface, TheWorld, TopName, TopUse, ToplevelUse, Tree, Tuple, TupleForm, TypeBody, TypeCycle, TypeDef, TypeDefKind, TypeOwner, Unknown, UnknownForm, Unnamed, UseMetadata, UseName, UsePart, UsePath, Used, Variant, VariantForm, Vec, Version, Word, WorldNamed, WorldSide, WorldUsed, [], about, about_name, accessor, address, addresses_differ, after_one, alike_back, all_declared, all_handles, all_items, all_params, all_scopes, all_shapes, all_types, all_words, and_from, and_parts, any_found, any_passes_from_place, append-cancel, append-nil, as_stated, at_back, at_contains, at_either, at_part, at_prefix, at_seam, at_side, at_split, at_take, at_within, attribute_text, attribute_version, bare, body_of, body_ok, body_types, both_ways, boxed_types, bytes_eq, called_functions, called_key, case_types, cases_Bool, cases_lt, chars-IsAscii, clash, codes, cond, cond-false, cond-true, cons_option, contains_at, cyclic_at, declaration_visits, declared_items, declared_metadata, declared_of, defined, defined_twice, definition_functions, deprecation, differ_at, differ_by, differ_head, differ_join, differ_more, differ_none, differ_tail, distinct_names, distinct_none, docs_of, docs_text, drop, drop_trailing_whitespace, either_at, encode_utf8_all, end_of-Type, eq-eqb, eqb-suc-zero, eqb-true, err_from_is_err_and, extern_at, extern_functions, extern_items, extern_link, extern_paths, extern_visits, false_from_ne_true, false≢true, fault, fault_in, fault_of, field_types, file_declarations, file_items, filter, filter-append, filter-map, filter_map, filter_map-append, filter_map_more, find, find-append, find-only, find_among, find_at, find_passes, find_some, first_foreign_uses, first_known, first_named, first_of, firsts, firsts-more, firsts_at, firsts_differ, firsts_has, flat_map, flat_map-append, flat_map-flat_map, flat_map-map, flat_map_at, flat_map_has, folded_key, foreign_at, foreign_interfaces, foreign_items, foreign_packages, foreign_uses, foreign_uses_alike, foreign_visits, foreign_worlds, found_by, fragments, free_function, fresh_row, function_as_type, function_called, function_key, function_name, function_used, functions, functions_differ, functions_imported, get_or, get_or_from_slice_get, getter_of, greedy_least, greedy_nil, greedy_push, greedy_sorted, handled_of, handles, head, headers, if◌then◌else◌, in_order, in_order-append, in_order-more, in_order_among, in_order_at, in_order_has, in_order_read, in_turn, in_turn_among, in_turn_distinct, in_turn_has, include_path, include_paths, includes, index_of, index_once, inline_after, inline_after-append, inline_differ, inline_inside, inline_interface, inline_item, inline_items, inline_items_at, inline_items_differ, inline_items_none, inline_part_uses, inline_twins, inline_uses, insert_entry, insert_entry-new, insert_key, inserted_next, inside_one, interface_attributes, interface_imported, interface_part, interface_there, interfaces_of, interfaces_on, interfaces_on-append, into_iter_items, is_ascii_alphabetic, is_ascii_alphanumeric, is_ascii_uppercase, is_defined, is_dotted, is_eq, is_foreign, is_fragment, is_inside, is_interface, is_label, is_lt, is_mangled, is_none, is_of, is_setter, is_some, is_some-lookup, is_world, is_world_at, item_at, item_called, item_foreign_uses, item_function, item_inline, item_link, item_name, item_named, item_row, item_row_at, item_rows, item_side, item_twice, item_types, item_word, items_on, items_twins, joined_alike, kept_all, kept_at, kept_differ, kept_early, kept_has, kept_next, kept_none, kept_past, key_at, keys-insert_entry, keys_of, kind_text, last_header, last_header-append, leads, length, length-append, length-inline_after, length-map, length-take-le, linked_twice, list_all, list_all-append, list_all_at, list_any, list_any-append, local_id, local_name, local_names, local_target, lone_setter, lookup, lookup-at, lookup-insert_entry, lookup-place, lower_case, lt-ltb, ltb-false, ltb-true, map, map-append, map-flat_map, map_at, map_by, map_map, meaning, meant_end, meant_ok, member, metadata, mismatch, missing_at, missing_type_at, more_of-Type, name_called, name_cases, name_equal, name_itself, name_twice, name_types, name_word, named_end, named_found, named_node, names-insert_entry, names_of_bare, names_on, names_same, names_within, nat_cmp, nat_eq, nat_lt, ne_eqb, needed-paths, needed_ids, needed_paths, nil_from_length, no_crossed, no_cyclic_edge, no_docs, no_fold, no_missing_edge, no_names, no_repeat, node_map, none_if, not, not-false, not-true, not_both, not_from_false, not_from_true, number_equal, ok_type, on_ok_weaker, on_side, one_answer, option_and_then, option_and_then_some, option_copied, option_eq, option_map, option_map_or, option_or, option_to_list, or_left, or_parts, or_right, order_within, own_greedy, own_uses, package_of, package_words, param_twice, part_functions, part_includes, part_items, part_names, part_types, part_uses, part_visits, parts, parts_of, passes, path_id, path_scope, path_visits, place_of, place_of-Some, places_to, pointwise, position, position-Some, position_or_len, prefix_len, primitive_type, rank, ranks_by, read_map, refused_weaker, release_of, resource_function, resource_items, rest_after, result_ok, result_types, retop, role_names, role_side, row_handles, row_of, row_shapes, row_types, rows, rows_more, rows_of, same_Some, same_address, same_address-equal, same_address-from, same_address-itself, same_edges, same_foreign_use, same_item, same_package, same_package-equal, same_package-from, same_package-itself, same_side, same_side-equal, scope, scope_alike, scope_item_at, scope_names, scopes_declared, scopes_either, scopes_inline, self_param, set_value_at, shape_end, shape_of, side_called, side_function, side_items, side_items_functions, side_itself, side_word, signature, slice_cmp, slice_get, slice_get-get_or, slice_get-map, slice_get-take, slice_get_past, slice_get_read, slice_get_within, slice_index, slice_index_or, slice_range, slice_set, slots, some_of, sorted_far, source_node, source_tree, span_of, span_of_ends, stability_by, stability_of, starts_with_letter, stated_text, stated_version, string_bytes, take, take-append-drop, take-append-le, take-append_seam, take-map, take_all, take_more, take_next, take_prefix, take_seam, target, target_scope, three_ways, ties, top_name, top_names, top_text, top_twice, tuple_types, twin_among, twins_back, twins_become, twins_inside, twins_make, type_word, types_of_borrowed, unbroken_metadata, unwrap_or, use_foreign_uses, use_of_foreign, use_path, use_paths, used, used_has, used_is, used_names, uses, visited, visits_same, walk, with_uses, words, words_of, world_part, world_there, worlds_of, written_param, written_types, «Type», ℕ, ∥∥₁_elim, ∥∥₁_map, ⊤, ◌&&◌, ◌++◌, ◌==◌, ◌||◌, ◌∷◌, ◌≡◌, ◌≢◌, functions_parts, part_of_function}
pub use Rattle.wit_functions.specs.FunctionNames.{HasMark, HasMarkOf, mark_of}
pub use Rattle.wit_functions.specs.SettersPlaced.{HaveDistinctNames, both, early, goes_on_alike, is_getter, is_getter_of, name_in, others, pairs, placed, prefixes, setters_placed, with_setters}
pub use Rattle.wit_functions.specs.declared.function.Function.{Function}
pub use Rattle.wit_functions.specs.declared.function.FunctionKind.{FunctionKind}
pub use Rattle.wit_functions.specs.declared.function.Param.{Param}
pub use Rattle.wit_model.specs.ItemsOfWorlds.{function_of, is_name}
pub use Rattle.wit_model.specs.contracts.world.WorldKeyPartialEq.TheImpl.{eq-value}
pub use Rattle.wit_model.specs.declared.ast_item.AstItem.{AstItem}
pub use Rattle.wit_model.specs.declared.interface.Interface.{Interface}
pub use Rattle.wit_model.specs.declared.unresolved.UnresolvedPackage.{UnresolvedPackage}
pub use Rattle.wit_model.specs.declared.world.World.{World}
pub use Rattle.wit_model.specs.declared.world.WorldInclude.{WorldInclude}
pub use Rattle.wit_model.specs.declared.world.WorldItem.{WorldItem}
pub use Rattle.wit_model.specs.declared.world.WorldItem.TheVariants.{Type_}
pub use Rattle.wit_model.specs.declared.world.WorldKey.{WorldKey}
pub use Rattle.wit_arena.specs.Resolving.{AreIncludes, AddsFunctions, AreEnded, AreKnown, AreNames, AreNew, AreOwned, AreResolved, Defines, Env, Extends, GivesPlaces, HasNames, IsAdded, IsInterned, IsNameIndex, IsStored, IsUnnamedOf, Names, Required, ResolvedScope, env_of, free_functions, named, names_in, resolved_scope, resolved_scope_at, resolved_scopes, unnamed, gathered, AddsForeign, AddsInterface, AddsScope, AddsSides, AddsWorld, foreign_type, interfaces_at, worlds_at, all_function_occurrences, foreign_use_occurrence, IsOccurrence}
pub use Rattle.wit_arena.specs.Kind.{EntryEnd, IsOther, IsResource, IsUnknown, entry_end, found_end, kind_end, part_end, kind_of}
pub use Rattle.wit_arena.specs.Occurrences.{End, Expr, Exprs, More, Of, Prim, Use, expr_of, exprs_of, name_exprs, Collects, Decls, Def, IsSeen, Key, Occurrence, Whole, keys, name_occurrences, shape_occurrences, shapes_occurrences, stability_at, type_of, types_of}
pub use Rattle.wit_arena.specs.Faithful.{HasArena, HasType, IsAnonymousForm, IsFaithful, IsMadeOf, IsRoot, LiesBelow, OfFunction, OfName, node_parts}
pub use Rattle.wit_arena.specs.Made.{IsEntryOf, Makes, entries_on, entry, foreign_interface, foreign_world, function_in, include_in, interface, interface_scopes, interface_turn, item_turns, member_turns, name_imports, name_places, names_in_turn, own_interface, own_interfaces, own_world, role_kind, scope_place, turns_of_world, world, world_entries, world_scopes}
pub use Rattle.wit_arena.proofs.Keyed.{AreAt, IsAt, IsEntry, IsKeyed, all_seen, one, seen, AreFunctions, AreShapes}
pub use Rattle.wit_arena.proofs.Members.{entries_walked, side_entries, turns_on_sides, turns_walked, walked_entries, walked_turns}
pub use Rattle.wit_arena.proofs.OneByOne.{OneByOne}
pub use Rattle.wit_arena.specs.SourceFunctions.{inline_entry, link_item, link_key, put_on, settled, by_name, freestanding_names, function_item, kinds_of, placed_functions}
pub use Rattle.wit_arena.specs.UnfoldedTypes.{At, IsBelow, dep_items, entry_head, entry_node, foreign_owner, function_types, functions_of, import_types, inline_owner, interface_at, interface_functions, interface_items, interfaces_from, is_interface_item, item_functions, keyed, named_interface, named_world, names_of, owner_of, package_node, package_tree, same_entry, world_functions, world_interfaces, world_types}
pub use Rattle.wit_arena.specs.Whole.{AreRequired, HandleRequires, Turned, all_occurrences, declarations, dep, dep_item, first_docs, foreign_entry, functions_at, owner_at, place_at, renamed, turn_handles, turn_occurrences, type_imports}
