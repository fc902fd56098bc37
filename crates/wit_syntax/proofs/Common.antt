-- The names that proofs of the crates above cite most, passed on from one place. Declares nothing.
pub use Rattle.std.proofs.Math.Dec.{eqb-suc-zero}
pub use Rattle.std.proofs.Math.Logic.{∥∥₁_elim, ∥∥₁_map}
pub use Rattle.std.proofs.Math.Seq.{drop-length, take-append-add, take-append_seam}
pub use Rattle.std.proofs.lemmas.Bool.{MatchBool-at_true, and_from, and_parts, both_ways, cases_Bool, cases_lt, cond-false, cond-true, eq-eqb, eqb-true, false_from_ne_true, false≢true, lt-ltb, ltb-false, ltb-true, ne_eqb, not-false, not-true, not_from_false, not_from_true, or_left, or_parts, or_right}
pub use Rattle.std.proofs.lemmas.Bool.Decides.{Decides-and, Decides-at, Decides-eqb, Decides-like, nat_tests}
pub use Rattle.std.proofs.lemmas.Grind.{flat_map-append}
pub use Rattle.std.proofs.lemmas.List.{append-nil, length-append, length-map, length-take-le, length_push, map-append, nil_from_length, take-append-drop, take-append-le, take-map, take-take, take_all, take_more}
pub use Rattle.std.proofs.lemmas.List.Elements.{All-cons, All-head, All-nil, All-push, All-same, All-tail, Contains-append_cases, Contains-append_left, Contains-append_right, Contains-push, filter-append, filter_map-append}
pub use Rattle.std.proofs.lemmas.List.Folds.{find-append, list_all-append, list_all_at, list_any-append}
pub use Rattle.std.proofs.lemmas.List.Quantifiers.{position-Some}
pub use Rattle.std.proofs.lemmas.List.Sorted.{IsPermutation-refl, IsPermutation-sym, ranks_by, sorted_far}
pub use Rattle.std.proofs.lemmas.Map.Keys.{IsDistinct-IsPermutation, IsDistinct-from_apart, any_passes_from_place, apart_from_distinct, below_from_sorted, sorted_from_strictly_increasing}
pub use Rattle.std.proofs.lemmas.Map.Made.{is_some-lookup}
pub use Rattle.std.proofs.lemmas.Option.{get_or_from_slice_get, none-some, option_and_then_some, same_Some, slice_get-get_or, slice_get-map, slice_get_cases, slice_get_past, slice_get_read, slice_get_within}
pub use Rattle.std.proofs.lemmas.Result.{IfOk-at_ok, IfOk-weaker, err_from_is_err_and, on_ok_weaker}
pub use Rattle.std.proofs.lemmas.Str.{IsCharBoundary-before_ascii, IsCharBoundary-from_ascii, IsCharBoundary-from_take, IsUtf8-from_ascii, IsUtf8-string_bytes, IsUtf8-take, chars-IsAscii, chars-append, encode_ascii, encodes-chars}
pub use Rattle.std.specs.Char.{is_ascii_alphabetic, is_ascii_alphanumeric, is_ascii_graphic, is_ascii_uppercase, is_ascii_whitespace, is_whitespace, to_ascii_lowercase}
pub use Rattle.std.specs.Cmp.Lexicographic.{pointwise, slice_cmp}
pub use Rattle.std.specs.List.{AllByRecursion, AllZip, IsDistinct, cons_option, ends_with, filter, filter_map, flat_map, fold, list_all, list_any, onto_first, position_or_len, prefix_len, reduce, slice_split, starts_with}
pub use Rattle.std.specs.List.Sorted.{IsPermutation, IsStrictlyIncreasing, ties}
pub use Rattle.std.specs.Map.{keys_of, lookup, update}
pub use Rattle.std.specs.Option.{is_some, option_and_then, option_copied, option_eq, option_map, option_map_or, option_or, option_to_list, unwrap_or}
pub use Rattle.std.specs.Ordering.{MatchOrdering, is_eq, is_lt, nat_cmp}
pub use Rattle.std.specs.Prelude.{All, AllPairs, Box, Contains, Err, IfErr, IfOk, IfSome, IsAscii, IsErrAnd, IsSome, IsTrue, List, MatchBool, Ok, OnErr, OnOk, Option, Result, String, Vec, [], codes, cond, drop, find, get_or, if◌then◌else◌, is_none, length, map, min, nat_eq, nat_lt, not, position, slice_get, slice_index, slice_index_or, slice_range, slice_set, string_bytes, take, ℕ, ⊤, ◌&&◌, ◌++◌, ◌==◌, ◌||◌, ◌∷◌, ◌≡◌, ◌≢◌}
pub use Rattle.std.specs.Str.{IsCharBoundary, IsUtf8, bytes_eq, drop_trailing_whitespace, encode_utf8_all}
pub use Rattle.std.specs.Str.Lines.{lines, lines_of_parts, strip_carriage_return}
pub use Rattle.std.specs.Vec.Iter.{into_iter_items}
pub use Rattle.std.specs.declared.alloc.Global.{Global}
pub use Rattle.indexmap.specs.IndexMap.{insert_entry}
pub use Rattle.indexmap.specs.IndexSet.{insert_key}
pub use Rattle.indexmap.specs.Layout.{set_value_at}
pub use Rattle.semver.specs.Grammar.{IsValid}
pub use Rattle.semver.specs.Identifiers.{parts_of}
pub use Rattle.semver.specs.declared.Version.{Version}
pub use Rattle.wit_names.specs.Folded.{folded_key, lower_case}
pub use Rattle.wit_names.specs.Label.{fragments, is_fragment, is_label, starts_with_letter}
pub use Rattle.wit_names.specs.Mangled.{is_dotted, is_mangled}
pub use Rattle.wit_names.specs.Prefix.{is_after, passes, rest_after}
pub use Rattle.wit_names.specs.Setter.{getter_of, is_setter}
pub use Rattle.wit_values.specs.declared.release.Release.{Release}
pub use Rattle.wit_values.specs.declared.span.Span.{Span}
pub use Rattle.wit_type_tree.proofs.Rows.{tuple_types, types_of_borrowed}
pub use Rattle.wit_type_tree.specs.Attributes.{attribute_span, attribute_text, attribute_version, first_of, is_of, kind_of, stated_text, stated_version}
pub use Rattle.wit_type_tree.specs.RefusalText.{IsAllocationFailure, kind_text, span_of}
pub use Rattle.wit_type_tree.specs.TypeParts.{body_types, boxed_types, case_types, err_type, field_types, ok_type, part_types, result_types, row_types}
pub use Rattle.wit_type_tree.specs.declared.attribute_kind.AttributeKind.{AttributeKind}
pub use Rattle.wit_type_tree.specs.declared.attribute_kind.AttributeKind.TheVariants.{Deprecated, ExternalId, Since, Unstable}
pub use Rattle.wit_type_tree.specs.declared.error.ParseError.{ParseError}
pub use Rattle.wit_type_tree.specs.declared.error.ParseErrorKind.{ParseErrorKind}
pub use Rattle.wit_type_tree.specs.declared.error.ParseErrorKind.TheVariants.{ItemNotFound, OutOfMemory, Syntax, TypeCycle}
pub use Rattle.wit_type_tree.specs.declared.leaves.Attribute.{Attribute}
pub use Rattle.wit_type_tree.specs.declared.leaves.Id.{Id}
pub use Rattle.wit_type_tree.specs.declared.types.Case.{Case}
pub use Rattle.wit_type_tree.specs.declared.types.EnumCase.{EnumCase}
pub use Rattle.wit_type_tree.specs.declared.types.Field.{Field}
pub use Rattle.wit_type_tree.specs.declared.types.Flag.{Flag}
pub use Rattle.wit_type_tree.specs.declared.types.Func.{Func}
pub use Rattle.wit_type_tree.specs.declared.types.FuncForm.{FuncForm}
pub use Rattle.wit_type_tree.specs.declared.types.FuncForm.TheVariants.{Async, Getter}
pub use Rattle.wit_type_tree.specs.declared.types.NamedFunc.{NamedFunc}
pub use Rattle.wit_type_tree.specs.declared.types.Param.{Param}
pub use Rattle.wit_type_tree.specs.declared.types.Primitive.{Primitive}
pub use Rattle.wit_type_tree.specs.declared.types.ResourceFunc.{ResourceFunc}
pub use Rattle.wit_type_tree.specs.declared.types.ResultTypes.{Both', Err', Neither, Ok', ResultTypes}
pub use Rattle.wit_type_tree.specs.declared.types.TypeBody.{TypeBody}
pub use Rattle.wit_type_tree.specs.declared.types.TypeBody.TheVariants.{Enum, Flags, Plain, Record, Resource, Variant}
pub use Rattle.wit_type_tree.specs.declared.types.«Type».{Held-Type-Future-1, None', Row_of-Type, Some', Tuple, end_of-Type, more_of-Type, «Type»}
pub use Rattle.wit_tree.specs.declared.tree.AstItem.{AstItem}
pub use Rattle.wit_tree.specs.declared.tree.Extern.{Extern}
pub use Rattle.wit_tree.specs.declared.tree.ExternKind.{ExternKind}
pub use Rattle.wit_tree.specs.declared.tree.Include.{Include}
pub use Rattle.wit_tree.specs.declared.tree.Interface.{Interface}
pub use Rattle.wit_tree.specs.declared.tree.InterfaceItem.{InterfaceItem}
pub use Rattle.wit_tree.specs.declared.tree.NestedPackage.{NestedPackage}
pub use Rattle.wit_tree.specs.declared.tree.PackageFile.{PackageFile}
pub use Rattle.wit_tree.specs.declared.tree.SourceFile.{SourceFile}
pub use Rattle.wit_tree.specs.declared.tree.ToplevelUse.{ToplevelUse}
pub use Rattle.wit_tree.specs.declared.tree.Use.{Use}
pub use Rattle.wit_tree.specs.declared.tree.UseName.{UseName}
pub use Rattle.wit_tree.specs.declared.tree.UsePath.{UsePath}
pub use Rattle.wit_tree.specs.declared.tree.World.{World}
pub use Rattle.wit_tree.specs.declared.tree.WorldItem.{WorldItem}
pub use Rattle.wit_tree.specs.declared.tree.WorldSide.{WorldSide}
pub use Rattle.wit_tree.specs.declared.tree.WorldSide.TheVariants.{Exported, Imported}
pub use Rattle.wit_graph.proofs.Greedy.{IsGreedy, greedy_least, greedy_nil, greedy_push, greedy_sorted, own_greedy, placed_no_cycle}
pub use Rattle.wit_graph.proofs.SameEdges.{complete_back, leads_onward, one_answer, same_edges, same_place}
pub use Rattle.wit_graph.proofs.Tables.{known, not_missing, place_by_key, row_at_place, slice_get-take}
pub use Rattle.wit_graph.specs.Laws.{AreAccepted, AreRefused, HaveSameEdges, NeedsAll}
pub use Rattle.wit_graph.specs.Order.{IsBefore, IsDependencyFirst, ReachesCycle}
pub use Rattle.wit_graph.specs.Table.{IsComplete, IsCyclic, IsEdge, IsMissing, IsOrder, Leads, Row, entry_row, place_of, rows, target}
pub use Rattle.wit_types.specs.InnerTypes.{IsBackward, IsBelow, handled_of, places_to, rank, slots}
pub use Rattle.wit_types.specs.declared.docs.Docs.{Docs}
pub use Rattle.wit_types.specs.declared.stability.Stability.{Stability}
pub use Rattle.wit_types.specs.declared.stability.Stability.TheVariants.{Stable, Unknown}
pub use Rattle.wit_types.specs.declared.types.Handle.TheVariants.{Borrow, Own}
pub use Rattle.wit_types.specs.declared.types.TypeDef.{TypeDef}
pub use Rattle.wit_types.specs.declared.types.TypeDefKind.{TypeDefKind}
pub use Rattle.wit_types.specs.declared.types.TypeOwner.{TypeOwner}
pub use Rattle.wit_package_names.specs.declared.package_name.PackageName.{PackageName}
pub use Rattle.wit_syntax.proofs.Addresses.{number_equal, same_address-equal, same_address-from, same_address-itself, same_package-equal, same_package-from, same_package-itself, same_side-equal, side_itself}
pub use Rattle.wit_syntax.proofs.Ends.{meant_end}
pub use Rattle.wit_syntax.proofs.Externs.{extern_at}
pub use Rattle.wit_syntax.proofs.Firsts.{firsts-more, firsts_at, firsts_differ, firsts_has}
pub use Rattle.wit_syntax.proofs.Found.{any_found, at_contains, contains_at, find-only, find_among, find_at, find_passes, find_some, some_of}
pub use Rattle.wit_syntax.proofs.Headers.{last_header-append, not_both, span_of_ends}
pub use Rattle.wit_syntax.proofs.Inline.{IsWritten, inline_after-append, inline_inside, inline_interface, inline_items_at, inline_items_differ, inline_items_none, inline_part_uses, inlined, interfaces_on, interfaces_on-append, is_inside, length-inline_after, with_uses}
pub use Rattle.wit_syntax.proofs.Inserting.{insert_entry-new, inserted_next, keys-insert_entry}
pub use Rattle.wit_syntax.proofs.JoinedFiles.{AreAlike, alike_back, items_twins, joined_alike, visits_same}
pub use Rattle.wit_syntax.proofs.AllUses.{all_uses_among, all_uses_has, flat_has, foreign_uses-filtered, has_flat, item_foreign_uses, use_foreign_uses}
pub use Rattle.wit_syntax.proofs.JoinedItems.{AreTwins, bare, inline_twins, names_of_bare, names_same, no_names, retop, twin_among, twins_back, twins_become, twins_inside, twins_make}
pub use Rattle.wit_syntax.proofs.JoinedLists.{filter-map, find-map, flat_map-flat_map, flat_map-map, map-flat_map, map_by}
pub use Rattle.wit_syntax.proofs.JoinedTrees.{foreign_uses_alike, scope_alike, used_names}
pub use Rattle.wit_syntax.proofs.Kept.{HasNot, after_one, differ_cons, differ_head, differ_tail, kept_at, kept_differ, kept_early, kept_has, kept_next, kept_past}
pub use Rattle.wit_syntax.proofs.Legal.{function_name, functions_differ, no_crossed, no_cyclic_edge, no_fold, no_missing_edge}
pub use Rattle.wit_syntax.proofs.Lists.{append-cancel, at_back, at_either, at_prefix, at_seam, at_split, at_take, at_within, filter_map_more, flat_map_at, flat_map_has, map_at, map_map, read_map, take_prefix, take_seam}
pub use Rattle.wit_syntax.proofs.Names.{lookup-at, lookup-insert_entry, lookup-place, name_cases, name_equal, name_itself, names-insert_entry}
pub use Rattle.wit_syntax.proofs.NeededPaths.{needed-paths}
pub use Rattle.wit_syntax.proofs.Orders.{in_order-append, in_order-more, in_order_at, in_order_has, in_order_read, index_of, index_once, order_within, take_next, three_ways}
pub use Rattle.wit_syntax.proofs.Refusing.{refused_weaker}
pub use Rattle.wit_syntax.proofs.Repeated.{called_key, differ_at, differ_by, differ_join, differ_more, differ_none, function_called, key_at, no_repeat}
pub use Rattle.wit_syntax.proofs.Rows.{fresh_row, item_row_at, row_of, rows_more}
pub use Rattle.wit_syntax.proofs.Scopes.{AreDeclared, addresses_differ, all_declared, first_named, found_by, inline_differ, inside_one, named_found, scope_item_at, scopes_declared, scopes_either, scopes_inline}
pub use Rattle.wit_syntax.proofs.Sides.{called_functions, functions_imported, functions_parts, interface_imported, kept_all, kept_none, links_none, part_of_function, resource_items, side_items_functions}
pub use Rattle.wit_syntax.proofs.Tables.{none_if, place_of-Some}
pub use Rattle.wit_syntax.proofs.Turns.{AreOwn, at_part, defined_at, defined_has, distinct_names, distinct_none, either_at, in_order_all, in_order_among, in_turn_among, in_turn_distinct, in_turn_has, names_within, used_at, used_has, used_is}
pub use Rattle.wit_syntax.proofs.Unnoted.{unbroken_metadata}
pub use Rattle.wit_syntax.specs.Address.{Address, ForeignNamed, InlineAt, InterfaceNamed, WorldNamed, is_foreign, package_of, release_of, same_address, same_package, same_version}
pub use Rattle.wit_syntax.specs.Bodies.{AreBroken, CanBeKey, Inside, IsBrokenBody, IsBrokenForm, IsBrokenList, IsBrokenType, IsDuplicateName, IsEmpty, IsFlagTooMany, IsInvalidKey, IsKey, IsSecond, IsSecondIn, Itself}
pub use Rattle.wit_syntax.specs.Broken.{AttributedUse, Body, CyclicItem, CyclicType, DefinedTwice, DuplicateItem, DuplicateTopName, ForeignStability, Function, Handle, Headerless, IncludeStability, InterfaceIncluded, IsBroken, IsBrokenItems, IsBrokenNames, IsBrokenScope, IsBrokenUse, IsCyclicEdge, IsDocumented, IsDocumentedTwice, IsLegal, IsLinkedTwice, IsMismatch, IsMissingEdge, IsOtherPackage, IsSamePackage, IsSecondDocs, IsSetterAlone, IsWrongTop, ItemStability, Items, LinkedTwice, LostUse, MissingItem, MissingName, MissingType, MissingUse, Names, Refused, Scope, Setter, Sides, TopUse, UseMetadata, WorldUsed, headers, is_world_at, last_header}
pub use Rattle.wit_syntax.specs.Docs.{common_indent, docs_text, ended_lines, joined, unmarked, without_end, without_last_lines, without_spaces}
pub use Rattle.wit_syntax.specs.ExternPart.{extern_paths, same_side}
pub use Rattle.wit_syntax.specs.Fault.{Cyclic, Fault, Missing, as_stated, cyclic_at, fault, fault_in, fault_of, function_as_type, function_used, interface_there, item_twice, item_word, linked_twice, lone_setter, missing_at, missing_type_at, name_twice, name_word, no_resource, param_twice, top_twice, type_word, world_there}
pub use Rattle.wit_syntax.specs.Foreign.{ForeignVisit, declaration_visits, extern_visits, foreign_at, foreign_interfaces, foreign_items, foreign_packages, foreign_visits, foreign_worlds, part_visits, path_visits, same_item, visited}
pub use Rattle.wit_syntax.specs.Form.{AliasForm, BorrowForm, EnumForm, FixedLengthListForm, FlagsForm, Form, FutureForm, ListForm, MapForm, Member, OptionForm, OwnForm, RecordForm, ResourceForm, ResultForm, StreamForm, TupleForm, UnknownForm, VariantForm}
pub use Rattle.wit_syntax.specs.Function.{Constructor, Freestanding, Method, OnSide, Role, SourceFunction, SourceParam, Static, accessor, all_params, all_types, constructor_of, definition_functions, extern_functions, free_function, name_types, part_functions, resource_function, role_names, self_param, side_function, signature, written_param, written_types}
pub use Rattle.wit_syntax.specs.Metadata.{AreMetadata, DeprecatedAlone, DeprecatedTwice, IsBrokenMetadata, IsBrokenStability, IsTwice, Metadata, SinceAndUnstable, SinceTwice, UnstableTwice, deprecation, docs_of, first_known, metadata, no_docs, stability_by, stability_of}
pub use Rattle.wit_syntax.specs.NameEnds.{AtForeign, AtResource, Elsewhere, End, EndsAt, IsNoResource, named_end, shape_end}
pub use Rattle.wit_syntax.specs.Node.{Head, Leaf, Named, Nothing, Tree, Unnamed, node_map, primitive_type}
pub use Rattle.wit_syntax.specs.Repeats.{AllDiffer, IsRepeatAt, firsts}
pub use Rattle.wit_syntax.specs.ScopeTables.{AreDistinct, defined, in_order, in_turn, include_path, include_paths, includes, interfaces_of, is_defined, item_row, item_rows, local_names, local_target, needed_ids, needed_paths, part_includes, part_uses, rows_of, use_path, use_paths, used, uses, worlds_of}
pub use Rattle.wit_syntax.specs.ScopesOfTrees.{scope, source_node, source_tree}
pub use Rattle.wit_syntax.specs.Shape.{More, Of, Prim, Shape, Shapes, Word, all_handles, all_shapes, all_words, body_of, handles, head, member, one, row_handles, row_shapes, shape_of, words}
pub use Rattle.wit_syntax.specs.Sides.{CrossedTwice, FoldedTwice, FunctionKey, InterfaceMetadata, IsBrokenSides, IsCrossedTwice, IsExternPart, IsFoldedTwice, Link, SideFunction, SideInline, SideItem, SideLink, all_scopes, extern_items, extern_link, function_key, inline_item, inline_items, interface_attributes, is_interface, item_called, item_function, item_inline, item_link, item_side, items_on, names_on, on_side, part_items, role_side, side_called, side_items, functions, item_types}
pub use Rattle.wit_syntax.specs.SignatureRules.{BrokenMetadata, BrokenTypes, Called, ConstructorOfOther, ConstructorWithoutResult, DuplicateParam, GetterGiven, GetterWithoutResult, IsBrokenFunction, IsConstructorOfOther, IsConstructorWithoutResult, IsEntered, IsGetterGiven, IsGetterWithoutResult, IsNoType, IsSetterGiven, IsSetterWithResult, IsUnpairedSetter, IsWrittenAs, MissingInSignature, OfFunction, OfNothing, SetterGiven, SetterWithResult, body_ok, meant_ok, name_called, ok_of, ok_span, result_ok, type_span}
pub use Rattle.wit_syntax.specs.Source.{Declared, Defined, DefinitionPart, ExternPart, Foreign, ForeignName, ForeignUse, FunctionPart, IncludePart, Item, Local, Part, Place, ScopeName, Target, TheInline, TheInterface, TheWorld, TopName, UsePart, Used, about, about_name, address, all_items, all_uses, at_side, declared_items, declared_metadata, file_items, first_foreign_uses, foreign_names, foreign_uses, inline_uses, interface_part, is_world, item_at, item_name, item_named, leads, local_id, local_name, meaning, named_node, own_uses, part_names, parts, path_id, path_scope, placed, scope_names, target_scope, top_name, top_names, top_text, walk, world_part}
pub use Rattle.wit_syntax.specs.Shorthand.{around, inline_after, same_foreign_use, use_of_foreign}
pub use Rattle.wit_syntax.specs.Splitting.{IsJoined, declarations, declared_of, file_declarations}
pub use Rattle.wit_syntax.specs.Words.{clash, defined_twice, mismatch, package_words, side_word, words_of}
