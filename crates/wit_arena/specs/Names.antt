-- The names that specs of this crate cite most, passed on from one place. Declares nothing.
pub use Rattle.std.specs.Cmp.Lexicographic.{pointwise}
pub use Rattle.std.specs.List.{AllZip, filter, filter_map, flat_map, fold, list_any, position_or_len, prefix_len}
pub use Rattle.std.specs.Map.{keys_of, lookup}
pub use Rattle.std.specs.Option.{option_and_then, option_map, option_map_or, option_or, option_to_list, unwrap_or}
pub use Rattle.std.specs.declared.alloc.Global.{Global}
pub use Rattle.indexmap.specs.IndexMap.{insert_entry}
pub use Rattle.wit_values.specs.declared.span.Span.{Span}
pub use Rattle.wit_type_tree.specs.Attributes.{stated_text}
pub use Rattle.wit_type_tree.specs.TypeParts.{body_types}
pub use Rattle.wit_type_tree.specs.declared.attribute_kind.AttributeKind.TheVariants.{ExternalId}
pub use Rattle.wit_type_tree.specs.declared.error.ParseError.{ParseError}
pub use Rattle.wit_type_tree.specs.declared.leaves.Id.{Id}
pub use Rattle.wit_type_tree.specs.declared.types.TypeBody.{TypeBody}
pub use Rattle.wit_tree.specs.declared.tree.Extern.{Extern}
pub use Rattle.wit_tree.specs.declared.tree.Include.{Include}
pub use Rattle.wit_tree.specs.declared.tree.PackageFile.{PackageFile}
pub use Rattle.wit_tree.specs.declared.tree.UsePath.{UsePath}
pub use Rattle.wit_tree.specs.declared.tree.WorldSide.{WorldSide}
pub use Rattle.wit_tree.specs.declared.tree.WorldSide.TheVariants.{Exported, Imported}
pub use Rattle.wit_graph.specs.Table.{IsOrder, Row}
pub use Rattle.wit_types.specs.declared.stability.Stability.{Stability}
pub use Rattle.wit_types.specs.declared.stability.Stability.TheVariants.{Unknown}
pub use Rattle.wit_types.specs.declared.types.Case.{Case}
pub use Rattle.wit_types.specs.declared.types.EnumCase.{EnumCase}
pub use Rattle.wit_types.specs.declared.types.Field.{Field}
pub use Rattle.wit_types.specs.declared.types.Flag.{Flag}
pub use Rattle.wit_types.specs.declared.types.TypeDef.{TypeDef}
pub use Rattle.wit_types.specs.declared.types.TypeDefKind.{TypeDefKind}
pub use Rattle.wit_types.specs.declared.types.TypeDefKind.TheVariants.{Type_}
pub use Rattle.wit_types.specs.declared.types.TypeOwner.{TypeOwner}
pub use Rattle.wit_types.specs.declared.types.«Type».{«Type»}
pub use Rattle.wit_package_names.specs.declared.package_name.PackageName.{PackageName}
pub use Rattle.wit_functions.specs.SettersPlaced.{placed}
pub use Rattle.wit_functions.specs.declared.function.Function.{Function}
pub use Rattle.wit_functions.specs.declared.function.FunctionKind.{FunctionKind}
pub use Rattle.wit_functions.specs.declared.function.Param.{Param}
pub use Rattle.wit_model.specs.ItemsOfWorlds.{function_of}
pub use Rattle.wit_model.specs.declared.ast_item.AstItem.{AstItem}
pub use Rattle.wit_model.specs.declared.interface.Interface.{Interface}
pub use Rattle.wit_model.specs.declared.unresolved.UnresolvedPackage.{UnresolvedPackage}
pub use Rattle.wit_model.specs.declared.world.World.{World}
pub use Rattle.wit_model.specs.declared.world.WorldInclude.{WorldInclude}
pub use Rattle.wit_model.specs.declared.world.WorldItem.{WorldItem}
pub use Rattle.wit_model.specs.declared.world.WorldKey.{WorldKey}
pub use Rattle.wit_syntax.specs.Address.{Address, ForeignNamed, InlineAt, InterfaceNamed, WorldNamed, is_foreign, package_of, same_address, same_package}
pub use Rattle.wit_syntax.specs.Broken.{IsDocumentedTwice, IsLegal, IsOtherPackage, headers, is_world_at, last_header}
pub use Rattle.wit_syntax.specs.ExternPart.{same_side}
pub use Rattle.wit_syntax.specs.Fault.{Fault, cyclic_at, fault, fault_in, fault_of, function_used, interface_there, item_word, linked_twice, missing_at, missing_type_at, name_twice, name_word, no_resource, type_word}
pub use Rattle.wit_syntax.specs.Foreign.{ForeignVisit, foreign_at, foreign_interfaces, foreign_items, foreign_packages, foreign_visits, foreign_worlds, same_item, visited}
pub use Rattle.wit_syntax.specs.Form.{AliasForm, BorrowForm, EnumForm, FixedLengthListForm, FlagsForm, Form, FutureForm, ListForm, MapForm, Member, OptionForm, OwnForm, RecordForm, ResourceForm, ResultForm, StreamForm, TupleForm, UnknownForm, VariantForm}
pub use Rattle.wit_syntax.specs.Function.{Constructor, Freestanding, Method, OnSide, Role, SourceFunction, SourceParam, Static, all_params, all_types, free_function, name_types, part_functions, resource_function, side_function, signature, written_types}
pub use Rattle.wit_syntax.specs.Metadata.{AreMetadata, Metadata, docs_of, first_known, metadata, no_docs, stability_of}
pub use Rattle.wit_syntax.specs.NameEnds.{AtForeign, AtResource, EndsAt, shape_end}
pub use Rattle.wit_syntax.specs.Node.{Head, Leaf, Named, Node, Nothing, Tree, Unnamed, primitive_type, unfolded}
pub use Rattle.wit_syntax.specs.Repeats.{AllDiffer, firsts}
pub use Rattle.wit_syntax.specs.ScopeTables.{AreDistinct, defined, in_order, in_turn, includes, interfaces_of, item_rows, local_names, needed_ids, rows_of, use_path, used, worlds_of}
pub use Rattle.wit_syntax.specs.ScopesOfTrees.{scope, source_node, source_tree}
pub use Rattle.wit_syntax.specs.Shape.{Body, End, More, Of, Prim, Shape, Shapes, Word, all_handles, all_shapes, body_of, handles, shape_of}
pub use Rattle.wit_syntax.specs.Sides.{FunctionKey, Link, SideFunction, SideInline, SideItem, SideLink, all_scopes, extern_link, function_key, inline_items, is_interface, item_function, item_inline, item_side, items_on, members, members_after, names_on, on_side, part_items, role_side, side_items, functions}
pub use Rattle.wit_syntax.specs.Source.{Declared, Defined, DefinitionPart, ExternPart, Foreign, ForeignUse, FunctionPart, IncludePart, Item, Local, Part, Place, ScopeName, Target, TheInline, TheInterface, TheWorld, TopName, UsePart, Used, about, about_name, address, all_items, at_side, declared_metadata, first_foreign_uses, foreign_uses, inline_uses, interface_part, is_world, item_at, item_name, leads, local_id, local_name, meaning, part_names, path_id, path_scope, scope_names, target_scope, top_names, world_part}
pub use Rattle.wit_syntax.specs.Shorthand.{inline_after, same_foreign_use, use_of_foreign}
