-- The names that proofs of the crates above cite most, passed on from one place. Declares nothing.
pub use Rattle.wit_syntax.proofs.Common.{Address, AliasForm, AllZip, AstItem, AtForeign, AtResource, Attribute, AttributeKind, Both', Called, Case, Constructor, Cyclic, Declared, Defined, DefinitionPart, Elsewhere, End, Enum, EnumCase, EnumForm, Err', Exported, Extern, ExternKind, ExternPart, Fault, Field, FixedLengthListForm, Flag, Flags, FlagsForm, Foreign, ForeignName, ForeignNamed, ForeignUse, ForeignVisit, Form, Freestanding, Func, FuncForm, Function, FunctionPart, HaveSameEdges, Held-Type-Future-1, Id, Imported, Include, IncludePart, InlineAt, Interface, InterfaceItem, InterfaceNamed, IsBelow, IsComplete, IsCyclic, IsEdge, IsMissing, Item, Leads, Link, Local, Member, Method, Missing, More, NamedFunc, Names, NeedsAll, Neither, None', Of, OfFunction, Ok', OnSide, PackageFile, PackageName, Param, Part, Plain, Prim, Primitive, ReachesCycle, Record, RecordForm, Release, Resource, ResourceFunc, ResultForm, ResultTypes, Role, Row, Row_of-Type, ScopeName, Shape, Shapes, SideFunction, SideInline, SideItem, SideLink, Some', SourceFunction, SourceParam, Span, Static, Target, TheInline, TheInterface, TheWorld, TopName, ToplevelUse, TypeBody, Use, UseName, UsePart, UsePath, Used, Variant, VariantForm, Version, Word, World, WorldItem, WorldNamed, WorldSide, about, about_name, accessor, address, all_items, all_scopes, all_shapes, all_words, at_side, attribute_span, body_of, body_ok, body_types, bytes_eq, case_types, clash, complete_back, cons_option, constructor_of, cyclic_at, declaration_visits, declared_items, defined, defined_twice, definition_functions, docs_text, end_of-Type, eqb-suc-zero, extern_functions, extern_items, extern_link, extern_paths, extern_visits, fault, fault_in, field_types, file_items, filter, filter_map, find, first_foreign_uses, first_of, firsts, flat_map, foreign_at, foreign_items, foreign_uses, foreign_visits, free_function, functions, getter_of, head, if◌then◌else◌, in_order, in_turn, include_path, include_paths, includes, inline_after, inline_item, inline_items, inline_uses, interface_part, interfaces_of, is_defined, is_interface, is_of, is_world, is_world_at, item_at, item_called, item_function, item_link, item_name, item_named, item_row, item_rows, item_side, item_twice, item_word, items_on, kind_of, last_header, leads, leads_onward, linked_twice, list_any, local_id, local_name, local_target, lone_setter, lower_case, meaning, meant_ok, member, missing_at, missing_type_at, more_of-Type, name_called, name_twice, name_word, named_end, names_on, needed-paths, needed_ids, needed_paths, ok_of, ok_span, ok_type, on_side, one, one_answer, option_map, option_map_or, option_or, package_of, param_twice, part_functions, part_includes, part_items, part_names, part_visits, parts, parts_of, path_id, path_scope, path_visits, place_of, release_of, resource_function, result_ok, role_names, role_side, row_shapes, rows_of, same_address, same_edges, same_foreign_use, same_item, same_place, same_side, scope, scope_names, shape_end, shape_of, side_called, side_function, side_items, slice_get, target, target_scope, top_name, top_names, top_text, top_twice, type_span, type_word, use_of_foreign, use_path, use_paths, used, used_at, used_names, visited, walk, words, world_part, worlds_of, written_param, «Type», ⊤, functions_parts}
pub use Rattle.wit_first.proofs.Bridge.{after_only, after_some, in_agrees, in_some, local_names_differ, or_none_both, or_some, refused_by}
pub use Rattle.wit_first.proofs.Clashes.{clash-made, clash-map, find_none, no_clashes}
pub use Rattle.wit_first.proofs.First.{after-append, after-at, after-more, after-next, any-map, any_some, finds_back, finds_memory, finds_same, in-all, in-append, in-at, in-following, in-map, in-more, in-parts, none_both, or_assoc, or_none, repeat-map, reports-after, reports-in, reports_back, reports_prefix, reports_same}
pub use Rattle.wit_first.proofs.Repeats.{after_kept, repeat_after, repeat_found, unrepeated}
pub use Rattle.wit_first.proofs.TypeFaults.{fault_parts, tuple_fault, type_kept}
pub use Rattle.wit_first.specs.AttributeFaults.{counted_fault, external_fault, kinds_fault, metadata_fault, number_of, repeat_fault, stability_fault}
pub use Rattle.wit_first.specs.FileFaults.{file_fault, files_fault, lost_fault, paths_fault, top_fault, tops_fault, unnamed_fault}
pub use Rattle.wit_first.specs.First.{Finds, FindsBy, IsFirstRepeat, IsOr, Reports, clash_of, first_after, first_in, first_repeat, repeat_of}
pub use Rattle.wit_first.specs.FunctionFaults.{getter_fault, given_fault, is_written_as, made_fault, params_fault, result_fault}
pub use Rattle.wit_first.specs.HeaderFaults.{have_docs, is_documented, nesting_fault, other_fault, push_fault, second_docs_fault}
pub use Rattle.wit_first.specs.Laws.{Agrees}
pub use Rattle.wit_first.specs.ListFaults.{empty_fault, list_fault, members_fault, names_fault}
pub use Rattle.wit_first.specs.NameFaults.{item_names_fault, local_names_fault, top_names_fault}
pub use Rattle.wit_first.specs.TypeFaults.{back_fault, prefix_fault, row_fault, type_fault}
pub use Rattle.wit_first.specs.UseFaults.{all_uses_fault, item_uses_fault, path_fault, reached_fault}
pub use Rattle.wit_walk.proofs.FreeFunctions.{functions_free, lost_listed}
pub use Rattle.wit_walk.proofs.Legal.{faultless, legal}
pub use Rattle.wit_walk.proofs.One.{one_first, outcome_one}
pub use Rattle.wit_walk.proofs.Sorts.{crossed_same, sides_sorted}
pub use Rattle.wit_walk.specs.Definitions.{definition_fault, end_fault, handle_fault}
pub use Rattle.wit_walk.specs.Functions.{function_fault, is_free, lost_word, param_fault, return_fault, signed_fault, word_fault}
pub use Rattle.wit_walk.specs.Members.{called_fault, crossed, is_extern, is_on_side, item_fault, member_fault, own_fault}
pub use Rattle.wit_walk.specs.Names.{folded_fault, lost_use, name_fault, use_fault}
pub use Rattle.wit_walk.specs.Orders.{AtCycle, AtMissing, InOrder, IsOutcome, Outcome, order_fault, order_of}
pub use Rattle.wit_walk.specs.Paths.{include_fault, interface_fault, is_same_link, link_fault, linked_fault}
pub use Rattle.wit_walk.specs.Setters.{is_setter, setter_fault, setters_fault, side_setters_fault}
pub use Rattle.wit_walk.specs.Sorts.{Sorted, crossed_among, item_sorted, side_sorted, sort_among, sorted_name}
pub use Rattle.wit_walk.specs.Walk.{ComesTo, IsFaultless, IsFirst, Known, contents_fault, earliest, first_fault, ordered_fault, scope_faults}
