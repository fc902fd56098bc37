pub use Rattle.wit_names.specs.Folded
pub use Rattle.wit_names.specs.Label
pub use Rattle.wit_names.specs.Mangled
pub use Rattle.wit_names.specs.Setter
pub use Rattle.wit_names.specs.Track
pub use Rattle.wit_maps.specs.Indexed
pub use Rattle.wit_values.specs.ReleaseText
pub use Rattle.wit_values.specs.SpanOrder
pub use Rattle.wit_maps.specs.TextEntries
pub use Rattle.wit_type_tree.specs.Attributes
pub use Rattle.wit_type_tree.specs.RefusalText
pub use Rattle.wit_tree.specs.Externs
pub use Rattle.wit_lex.specs.Places
pub use Rattle.wit_lex.specs.Sources
pub use Rattle.wit_grammar.specs.Laws as Spelling
pub use Rattle.wit_grammar.specs.Seen
pub use Rattle.wit_grammar.specs.Trees
pub use Rattle.wit_text.specs.Files
pub use Rattle.wit_bundle.specs.Bundle
pub use Rattle.wit_bundle.specs.Laid
pub use Rattle.wit_bundle.specs.SourcePaths
pub use Rattle.wit_graph.specs.Laws as OrderLaws
pub use Rattle.wit_graph.specs.Refused
pub use Rattle.wit_graph.specs.Table
pub use Rattle.wit_order.specs.Counted
pub use Rattle.wit_types.specs.Sizes
pub use Rattle.wit_types.specs.Spans as MovedSpans
pub use Rattle.wit_types.specs.Stabilities
pub use Rattle.wit_types.specs.InnerTypes
pub use Rattle.wit_types.specs.KindWords
pub use Rattle.wit_package_names.specs.PackageName
pub use Rattle.wit_functions.specs.Abi
pub use Rattle.wit_functions.specs.FunctionKinds
pub use Rattle.wit_functions.specs.Futures
pub use Rattle.wit_functions.specs.FunctionNames
pub use Rattle.wit_functions.specs.SettersPlaced
pub use Rattle.wit_functions.specs.SignatureTypes
pub use Rattle.wit_model.specs.SamePackages
pub use Rattle.wit_model.specs.ItemsOfWorlds
pub use Rattle.wit_intern.specs.FiniteMap
pub use Rattle.wit_intern.specs.TypeKeys
pub use Rattle.wit_syntax.specs.Address
pub use Rattle.wit_syntax.specs.Broken
pub use Rattle.wit_syntax.specs.Fault
pub use Rattle.wit_syntax.specs.Foreign
pub use Rattle.wit_syntax.specs.Metadata
pub use Rattle.wit_syntax.specs.ScopeTables
pub use Rattle.wit_syntax.specs.Source
pub use Rattle.wit_syntax.specs.Splitting
pub use Rattle.wit_arena.specs.Faithful
pub use Rattle.wit_arena.specs.Made
pub use Rattle.wit_arena.specs.SplitOccurrences as SplitArenas
pub use Rattle.wit_arena.specs.Whole
pub use Rattle.wit_first.specs.AttributeFaults as AttributeFaults
pub use Rattle.wit_first.specs.First
pub use Rattle.wit_first.specs.HeaderFaults
pub use Rattle.wit_first.specs.ListFaults
pub use Rattle.wit_first.specs.OrderFaults
pub use Rattle.wit_walk.specs.Walk
pub use Rattle.wit_refusals.specs.NameScopes as ScopeNames
pub use Rattle.wit_refusals.specs.KeyedNames as NameScopes
pub use Rattle.wit_top_names.specs.Tops
pub use Rattle.wit_files.specs.FileNames
pub use Rattle.wit_files.specs.ForeignPaths as ForeignNames
pub use Rattle.wit_files.specs.Visits
pub use Rattle.wit_groups.specs.Ids
pub use Rattle.wit_groups.specs.Marks
pub use Rattle.wit_groups.specs.Stray
pub use Rattle.wit_groups.specs.NestedNames
pub use Rattle.wit_groups.specs.Nested
pub use Rattle.wit_groups.specs.PushFaults
pub use Rattle.wit_groups.specs.GroupFaults
pub use Rattle.wit_groups.specs.Groups
pub use Rattle.wit_groups.specs.SourceFaults
pub use Rattle.wit_resolved.specs.AliasEnds
pub use Rattle.wit_resolved.specs.Left
pub use Rattle.wit_resolved.specs.Lookups
pub use Rattle.wit_resolved.specs.Valid
pub use Rattle.wit_listing.specs.ErrorLine
pub use Rattle.wit_listing.specs.Listing
pub use Rattle.wit_listing.specs.Output
pub use Rattle.wit_json.specs.Group
pub use Rattle.wit_json.specs.Numbers
pub use Rattle.wit_json.specs.Refusal as RefusalJson
pub use Rattle.wit_json.specs.ValueTokens
pub use Rattle.wit_outcome.specs.Outcome
pub use Rattle.wit_outcome.specs.Plain
pub use Rattle.wit_tool.specs.FaultLine
pub use Rattle.wit_tool.specs.Output as Printed
pub use Rattle.wit_tool.specs.Run
