-- What is read after a name, docs, attributes or a path that was read before.
use Rattle.std.specs.Prelude.{ℕ, List, Option, map, Vec}
use Rattle.std.specs.declared.alloc.Global.{Global}
use Rattle.std.specs.Option.{option_map}
use Rattle.semver.specs.declared.Version.{Version}
use Rattle.wit_values.specs.declared.span.Span.{Span}
use Rattle.wit_type_tree.specs.declared.leaves.Attribute.{Attribute}
use Rattle.wit_type_tree.specs.declared.leaves.Docs.{Docs}
use Rattle.wit_type_tree.specs.declared.leaves.Id.{Id}
use Rattle.wit_tree.specs.declared.tree.PackageName.{PackageName}
use Rattle.wit_lex.specs.declared.kind.Kind.TheVariants.{OpenBrace, CloseBrace}
use Rattle.wit_reader.specs.FoundVersions.{see_found}
use Rattle.wit_reader.specs.declared.before_item.Prefix.{Prefix as WrittenPrefix}
use Rattle.wit_grammar.specs.Trees.{Name, Release, RenamedName, Interface, World, Extern, ExternKind, Include, Nested, PackageId, WorldItem, crosses, world_uses, world_defines, includes, inline_interface, by_func}
use Rattle.wit_grammar.specs.Seen.{see_attribute, see_docs, see_name, see_package_id}
use Rattle.wit_grammar.specs.Grammar.{Gram, act, listed}
use Rattle.wit_grammar.specs.Rules.{used, use_of}
use Rattle.wit_grammar.specs.ItemRules.{after_colon, after_second, braced, definition, definition_of, extern, extern_of, get_or_set, include, include_of, inline_items, interface_of, interface_rule, item_to, nested_of, package_names, package_of, package_to, renamed, world_of, world_rule, worded_function}
use Rattle.wit_interface_reader.specs.After.{prefix_of}

-- ---- after a name
abbrev pub inline_after : Id → Gram ExternKind
inline_after id = act (inline_interface (see_name id)) inline_items

abbrev pub worded_after : Id → Gram ExternKind
worded_after id = act (by_func (see_name id)) worded_function

abbrev pub path_after : (first second : Id) → Gram ExternKind
path_after first second = act (λ x. x (see_name first) (see_name second)) after_second

abbrev pub accessor_after : Id → Gram ExternKind
accessor_after id = act (λ x. x (see_name id)) get_or_set

abbrev pub kind_after : Id → Gram ExternKind
kind_after id = act (λ x. x (see_name id)) after_colon

-- ---- after docs and attributes
abbrev pub interface_after : WrittenPrefix → Gram Interface
interface_after f = act (interface_of (prefix_of f)) interface_rule

abbrev pub world_after : WrittenPrefix → Gram World
world_after f = act (world_of (prefix_of f)) world_rule

abbrev pub extern_after : WrittenPrefix → Gram Extern
extern_after f = act (extern_of (prefix_of f)) extern

abbrev pub include_after : Vec Attribute Global → Gram Include
include_after attributes = act (include_of (map see_attribute attributes.items)) include

-- ---- items of worlds
abbrev pub renamed_names : Gram (List RenamedName)
renamed_names = listed OpenBrace CloseBrace renamed

abbrev pub extern_part_after : WrittenPrefix → Gram WorldItem
extern_part_after f = act (λ x. crosses (extern_of (prefix_of f) x)) extern

abbrev pub definition_after : WrittenPrefix → Gram WorldItem
definition_after f = act (λ x. world_defines (definition_of (prefix_of f) x)) definition

abbrev pub uses_after : Vec Attribute Global → Gram WorldItem
uses_after attributes = act (λ x. world_uses (use_of (map see_attribute attributes.items) x)) used

abbrev pub includes_after : Vec Attribute Global → Gram WorldItem
includes_after attributes = act (λ x. includes (include_of (map see_attribute attributes.items) x)) include

-- ---- packages
abbrev pub names_of : (namespace name : Id) → Option (Span × Version) → Name × Name × Option (Span × Release)
names_of namespace name found = (see_name namespace, see_name name, option_map see_found found)

abbrev pub names_after : Docs → Gram PackageId
names_after docs = act (package_of (see_docs docs)) package_names

abbrev pub package_after : Docs → ℕ → Gram PackageId
package_after docs left = act (λ x. package_of (see_docs docs) x.0) (package_to left)

abbrev pub nested_after : PackageName → Gram Nested
nested_after name = act (nested_of (see_package_id name)) (braced (item_to 99))
