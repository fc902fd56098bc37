-- The spans that interfaces, worlds and packages hold, and these with each span shifted and nothing else changed.
use Rattle.std.specs.Prelude.{ℕ, List, [], ◌∷◌, ◌++◌, map}
use Rattle.std.specs.List.{flat_map}
use Rattle.std.specs.Map.{values_of}
use Rattle.wit_values.specs.declared.span.Span.{Span}
use Rattle.wit_types.specs.Spans.{on_value, required_spans, shifted, shifted_required, shifted_type, type_spans}
use Rattle.wit_functions.specs.Spans.{function_spans, shifted_function}
use Rattle.wit_model.specs.declared.interface.Interface.{Interface}
use Rattle.wit_model.specs.declared.unresolved.UnresolvedPackage.{UnresolvedPackage}
use Rattle.wit_model.specs.declared.world.World.{World}
use Rattle.wit_model.specs.declared.world.WorldInclude.{WorldInclude}
use Rattle.wit_model.specs.declared.world.WorldItem.{WorldItem}
use Rattle.wit_model.specs.declared.world.WorldItem.TheVariants as item

-- its own, and those of its functions
abbrev pub interface_spans : Interface → List Span
interface_spans i = i.span ∷ flat_map function_spans (values_of i.functions)

abbrev pub shifted_interface : ℕ → Interface → Interface
shifted_interface offset i = record i { span = shifted offset i.span; functions = map (on_value (shifted_function offset)) i.functions }

-- a function's, else its own
abbrev pub item_spans : WorldItem → List Span
item_spans (item.Interface id stability external_id docs span) = span ∷ []
item_spans (item.Function f) = function_spans f
item_spans (item.Type_ id span) = span ∷ []

abbrev pub shifted_item : ℕ → WorldItem → WorldItem
shifted_item offset (item.Interface id stability external_id docs span) = item.Interface id stability external_id docs (shifted offset span)
shifted_item offset (item.Function f) = item.Function (shifted_function offset f)
shifted_item offset (item.Type_ id span) = item.Type_ id (shifted offset span)

abbrev pub include_spans : WorldInclude → List Span
include_spans i = i.span ∷ []

abbrev pub shifted_include : ℕ → WorldInclude → WorldInclude
shifted_include offset i = record i { span = shifted offset i.span }

-- its own, and those of its imports, exports and includes
abbrev pub world_spans : World → List Span
world_spans w = w.span ∷ flat_map item_spans (values_of w.imports) ++ flat_map item_spans (values_of w.exports) ++ flat_map include_spans w.includes

abbrev pub shifted_world : ℕ → World → World
shifted_world offset w = record w { span = shifted offset w.span; imports = map (on_value (shifted_item offset)) w.imports; exports = map (on_value (shifted_item offset)) w.exports; includes = map (shifted_include offset) w.includes }

-- that of its name, those of what it names and requires of other packages, and those of its worlds, interfaces and types
abbrev pub package_spans : UnresolvedPackage → List Span
package_spans p = p.name_span ∷ p.unknown_type_spans ++ p.foreign_dep_spans ++ flat_map required_spans p.required_resource_types ++ flat_map world_spans p.worlds ++ flat_map interface_spans p.interfaces ++ flat_map type_spans p.types

abbrev pub shifted_package : ℕ → UnresolvedPackage → UnresolvedPackage
shifted_package offset p = record p { name_span = shifted offset p.name_span; unknown_type_spans = map (shifted offset) p.unknown_type_spans; foreign_dep_spans = map (shifted offset) p.foreign_dep_spans; required_resource_types = map (shifted_required offset) p.required_resource_types; worlds = map (shifted_world offset) p.worlds; interfaces = map (shifted_interface offset) p.interfaces; types = map (shifted_type offset) p.types }
